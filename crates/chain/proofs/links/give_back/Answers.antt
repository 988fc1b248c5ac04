use Rattle.std.proofs.Common.{◌∙◌, arith}
use Rattle.chain.proofs.Chains.{gives, length_list}
use Rattle.chain.proofs.links.give_back.Goals as goal

pub overflow_add-count : goal.overflow_add-count
overflow_add-count c =
    let g = gives c.loop-link.cells c.loop-link.link c.loop-link.unused c.in-Some.i c.in-Some.is c.loop-link.invariant.0 c.loop-link.invariant.1 in
    omega (arith, g.long, c.loop-link.invariant.2, length_list c.args.cells.now c.args.from)

pub loop-link-smaller : goal.loop-link-smaller
loop-link-smaller c =
    let g = gives c.loop-link.cells c.loop-link.link c.loop-link.unused c.in-Some.i c.in-Some.is c.loop-link.invariant.0 c.loop-link.invariant.1 in
    rw (c.from.ensures, c.from-in-Some.ensures) (omega (arith, g.long))

pub loop-link-preserved : goal.loop-link-preserved
loop-link-preserved c =
    let g = gives c.loop-link.cells c.loop-link.link c.loop-link.unused c.in-Some.i c.in-Some.is c.loop-link.invariant.0 c.loop-link.invariant.1 in
    rw (c.from.ensures, c.from-in-Some.ensures) (g.rest, g.once, omega (arith, g.long, c.loop-link.invariant.2), g.same ∙ c.loop-link.invariant.3)
