-- The text of a report.
use Rattle.std.specs.Prelude.{List, ℕ, ◌++◌, codes, decimal}
use Rattle.refusals.specs.declared.Report.{Report}

-- the three numbers with a space between, as "3 9 2"
abbrev pub report_text : Report → List ℕ
report_text r = decimal r.layer ++ (codes " " ++ (decimal r.number ++ (codes " " ++ decimal r.place)))
