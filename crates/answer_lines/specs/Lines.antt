-- What a refusal of a line says, the text of a refusal, and that of values.
use Rattle.std.specs.Prelude.{ℕ, List, [], ◌∷◌, ◌++◌, codes, decimal}
use Rattle.refusals.specs.declared.Report.{Report}
use Rattle.refusals.specs.Reports.{report_text}
use Rattle.ledger.specs.Faults.{fault_report}
use Rattle.answer_lines.specs.declared.LineFault.{LineFault}
use Rattle.answer_lines.specs.declared.LineFault.TheVariants.{Malformed, Engine}

-- a fault of the engine is carried up whole
abbrev pub line_report : LineFault → Report
-- a malformed line or record: its number
line_report (Malformed n) = record { layer = 4; number = 7; place = n }
line_report (Engine f) = fault_report f

-- what a refusal reports, behind "refused"
abbrev pub refused_text : Report → List ℕ
refused_text r = codes "refused " ++ report_text r

-- a space before each value
abbrev pub spaced : List ℕ → List ℕ
spaced [] = []
spaced (x ∷ xs) = codes " " ++ (decimal x ++ spaced xs)
