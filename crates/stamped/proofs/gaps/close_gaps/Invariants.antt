use Rattle.stamped.proofs.Closings.{Closes}
use Rattle.stamped.proofs.gaps.close_gaps.Given as goal

abbrev pub invariant-loop-i : goal.invariant-loop-i
invariant-loop-i g l = Closes (g.R.Drops.drops l.rule) l.initial.records l.records l.left l.i
