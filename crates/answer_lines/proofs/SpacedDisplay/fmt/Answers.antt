use Rattle.std.proofs.Common.{is_ok, ap, arith}
use Rattle.std.proofs.Output.{has_written_append, has_written_of_eq}
use Rattle.answer_lines.proofs.Spacing.{spaced_more}
use Rattle.answer_lines.proofs.SpacedDisplay.fmt.Goals as goal

pub loop-value-preserved : goal.loop-value-preserved
loop-value-preserved g c = λ plain.
    let before = c.loop-value.invariant plain in
    let more = c.write.ensures.writes before.plain (ap is_ok c.in_ok-write.was) in
    has_written_of_eq g.W.Write.write_str_gives _ _ _ _ (spaced_more c.args.self.now.values.now c.loop-value.value-index (omega arith))
    (has_written_append g.W.Write.write_str_gives _ _ _ _ _ before more)
