-- The text of a line: the number of its record, a space, and the result.
use Rattle.std.specs.Prelude.{ℕ, List, ◌++◌, take, Some, None, Ok, Err, codes, decimal, Result}
use Rattle.ledger.specs.declared.Done.{Done}
use Rattle.ledger.specs.declared.Done.TheVariants.{Began, Read, Total, Wrote, Ended, Aborted, Reclaimed}
use Rattle.ledger.specs.declared.Figure.{Figure}
use Rattle.ledger.specs.declared.Figure.TheVariants.{Sum, Smallest, NonZero}
use Rattle.ledger.specs.declared.Verdict.{Verdict}
use Rattle.ledger.specs.declared.Verdict.TheVariants.{Closed, Restart, Spent, Full, Committed}
use Rattle.answer_lines.specs.declared.LineFault.{LineFault}
use Rattle.answer_lines.specs.Lines.{line_report, refused_text, spaced}

abbrev pub verdict_text : Verdict → List ℕ
verdict_text Closed = codes "closed"
verdict_text (Restart k s) = codes "restart " ++ (decimal k ++ (codes " " ++ decimal s))
verdict_text Spent = codes "spent"
verdict_text (Full w f) = codes "full " ++ (decimal w ++ (codes " " ++ decimal f))
verdict_text (Committed t) = codes "committed " ++ decimal t

-- the smallest of no values is none
abbrev pub figure_text : Figure → List ℕ
figure_text (Sum x) = codes "sum " ++ decimal x
figure_text (Smallest None) = codes "smallest none"
figure_text (Smallest (Some v)) = codes "smallest " ++ (decimal v.value ++ (codes " " ++ decimal v.key))
figure_text (NonZero n) = codes "nonzero " ++ decimal n

-- the values of a read stand at the front of the buffer
abbrev pub done_text : Done → List ℕ → List ℕ
done_text (Began h) b = codes "began " ++ decimal h
done_text (Read n) b = codes "read" ++ spaced (take n b)
done_text (Total f) b = figure_text f
done_text Wrote b = codes "wrote"
done_text (Ended v) b = verdict_text v
done_text Aborted b = codes "aborted"
done_text (Reclaimed n) b = codes "reclaimed " ++ decimal n

abbrev pub result_text : Result Done LineFault → List ℕ → List ℕ
result_text (Ok d) b = done_text d b
result_text (Err f) b = refused_text (line_report f)

abbrev pub line_text : ℕ → Result Done LineFault → List ℕ → List ℕ
line_text n r b = decimal n ++ (codes " " ++ result_text r b)
