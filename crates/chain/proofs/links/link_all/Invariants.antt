use Rattle.std.proofs.Common.{◌≡◌, take}
use Rattle.chain.specs.Links.{before, laid}
use Rattle.chain.proofs.links.link_all.Given as goal

-- the cells so far are linked
abbrev pub invariant-loop-i : goal.invariant-loop-i
invariant-loop-i l = (l.unused ≡ before l.i) × (take l.i l.cells ≡ laid l.i)
