use Rattle.std.proofs.Common.{◌≡◌, ◌++◌, drop}
use Rattle.transaction_table.specs.View.{view}
use Rattle.engine.specs.Reads.{values_read}
use Rattle.engine.proofs.engine.reading.fill.Given as goal

abbrev pub invariant-loop-i : goal.invariant-loop-i
invariant-loop-i g l = l.front ≡ values_read (g.S.VersionStore.meaning l.store) (view l.transaction) l.range.first l.i ++ drop l.i l.initial.front
