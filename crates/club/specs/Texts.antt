-- The words for what an event did.
use Rattle.std.specs.Prelude.{ℕ, List, ◌++◌, Some, None, Option, Ok, Err, codes, decimal, Result}
use Rattle.refusals.specs.declared.Report.{Report}
use Rattle.ledger.specs.Faults.{fault_report}
use Rattle.ledger.specs.declared.Fault.{Fault}
use Rattle.ledger.specs.declared.KeyedValue.{KeyedValue}
use Rattle.ledger.specs.declared.Verdict.{Verdict}
use Rattle.ledger.specs.declared.Verdict.TheVariants.{Closed, Restart, Spent, Full, Committed}
use Rattle.answer_lines.specs.declared.LineFault.{LineFault}
use Rattle.answer_lines.specs.Lines.{line_report, refused_text, spaced}
use Rattle.club.specs.declared.said.Figures.{Figures}
use Rattle.club.specs.declared.said.Recalculation.{Recalculation}
use Rattle.club.specs.declared.said.Redone.{Redone}
use Rattle.club.specs.declared.said.Said.{Said}
use Rattle.club.specs.declared.said.Said.TheVariants.{Card, Correction, Recalculation as Opened, AlreadyOpen, NoneOpen, Ended, Restarted, Values, Figures as FiguresTold, Report as ReportOpened, Removed}

-- what is told of an answer, or of the text of a refusal
abbrev pub answer_or_refusal : {T E X : Type 0} → (T → X) → (List ℕ → X) → (E → Report) → Result T E → X
answer_or_refusal answer refusal report (Ok x) = answer x
answer_or_refusal answer refusal report (Err e) = refusal (refused_text (report e))

-- an answer's own words, or the refusal
abbrev pub text_or_refused : {T E : Type 0} → (T → List ℕ) → (E → Report) → Result T E → List ℕ
text_or_refused text report r = answer_or_refusal text (λ t. t) report r

abbrev pub ending_text : Verdict → List ℕ
ending_text Closed = codes "closed"
ending_text (Restart k s) = codes "restarted by the commit at tick " ++ (decimal s ++ (codes " on key " ++ decimal k))
ending_text Spent = codes "spent: no tick is left"
ending_text (Full w f) = codes "full: " ++ (decimal w ++ (codes " to write, " ++ (decimal f ++ codes " free")))
ending_text (Committed t) = codes "committed at tick " ++ decimal t

abbrev pub end_text : Result Verdict Fault → List ℕ
end_text r = text_or_refused ending_text fault_report r

abbrev pub recalculation_text : Recalculation → List ℕ
recalculation_text w =
    codes "recalculation " ++ (decimal w.handle ++ (codes " read " ++ (decimal w.count ++ (codes " rounds: index "
    ++ (decimal w.value ++ (codes " for key " ++ decimal w.index))))))

abbrev pub redone_text : Redone → List ℕ
redone_text d = recalculation_text d.work ++ (codes ", " ++ end_text d.end)

-- the smallest value and its key, or that there is none
abbrev pub least_text : Option KeyedValue → List ℕ
least_text None = codes "none"
least_text (Some x) = decimal x.value ++ (codes " for key " ++ decimal x.key)

-- the three figures of a run of rounds
abbrev pub figures_text : Figures → List ℕ
figures_text f =
    codes "sum " ++ (decimal f.sum ++ (codes ", smallest " ++ (least_text f.smallest ++ (codes ", "
    ++ (decimal f.played ++ codes " rounds played")))))

abbrev pub said_text : Said → List ℕ
said_text (Card k x r) = codes "card " ++ (decimal x ++ (codes " for key " ++ (decimal k ++ (codes ": " ++ end_text r))))
said_text (Correction k x was r) =
    codes "card " ++ (decimal x ++ (codes " for key " ++ (decimal k ++ (codes " in place of " ++ (decimal was ++ (codes ": " ++ end_text r))))))
said_text (Opened w) = recalculation_text w
said_text AlreadyOpen = codes "a recalculation is open already"
said_text NoneOpen = codes "no recalculation is open"
said_text (Ended v) = ending_text v
said_text (Restarted k s r) = ending_text (Restart k s) ++ (codes "; again: " ++ text_or_refused redone_text fault_report r)
said_text (Values xs) = codes "values" ++ spaced xs
said_text (FiguresTold f) = figures_text f
said_text (ReportOpened h) = codes "report " ++ (decimal h ++ codes " opened")
said_text (Removed n) = decimal n ++ codes " versions removed"

-- an answer to a line: what was said, or the refusal
abbrev pub answer_text : Result Said LineFault → List ℕ
answer_text r = text_or_refused said_text line_report r
