use Rattle.std.proofs.Common.{◌≡◌, ◌+◌, length}
use Rattle.chain.specs.Links.{Ends, HasNoRepeat, list_from, given_back}
use Rattle.chain.proofs.links.give_back.Given as goal

abbrev pub invariant-loop-link : goal.invariant-loop-link
invariant-loop-link l =
    Ends l.cells l.link
    × HasNoRepeat (list_from l.cells l.link)
    × (l.count + length (list_from l.cells l.link) ≡ length (list_from l.initial.cells l.initial.link))
    × (given_back l.cells (list_from l.cells l.link) l.unused ≡ given_back l.initial.cells (list_from l.initial.cells l.initial.link) l.initial.unused)

abbrev pub decreases-loop-link : goal.decreases-loop-link
decreases-loop-link l = length (list_from l.cells l.link)
