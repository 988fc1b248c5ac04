use Rattle.std.proofs.Common.{◌≡◌}
use Rattle.transaction_table.specs.View.{view}
use Rattle.summaries.specs.Summaries.{summary_of}
use Rattle.engine.specs.Reads.{values_read}
use Rattle.engine.proofs.engine.reading.total_of.Given as goal

abbrev pub invariant-loop-i : goal.invariant-loop-i
invariant-loop-i g l = let m = g.M.Summary in l.figure ≡ summary_of m.one m.neutral m.join l.range.first (values_read (g.S.VersionStore.meaning l.store) (view l.transaction) l.range.first l.i)
