use Rattle.chain.proofs.Prunes.{IsPrunedUpTo}
use Rattle.chain.proofs.links.prune_chains.Given as goal

abbrev pub invariant-loop-head : goal.invariant-loop-head
invariant-loop-head l = IsPrunedUpTo l.horizon l.heads l.initial.cells l.initial.unused l.cells l.unused l.freed l.head-index
