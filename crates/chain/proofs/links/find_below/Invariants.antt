use Rattle.std.proofs.Common.{◌≡◌, length}
use Rattle.chain.specs.Links.{Ends, list_from, first_below}
use Rattle.chain.proofs.links.find_below.Given as goal

abbrev pub invariant-loop-link : goal.invariant-loop-link
invariant-loop-link l = Ends l.cells l.link × (first_below l.tick l.cells (list_from l.cells l.link) ≡ first_below l.tick l.cells (list_from l.cells l.initial.link))

abbrev pub decreases-loop-link : goal.decreases-loop-link
decreases-loop-link l = length (list_from l.cells l.link)
