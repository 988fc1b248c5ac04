use Rattle.std.proofs.Common.{length, ap, ◌∙◌, arith}
use Rattle.chain.proofs.Chains.{list_step, first_passes}
use Rattle.chain.proofs.links.find_below.Goals as goal

pub loop-link-smaller : goal.loop-link-smaller
loop-link-smaller c =
    let s = list_step c.args.cells.now c.loop-link.link c.in-Some.i c.in-Some.is c.loop-link.invariant.0 in
    rw c.from.ensures (omega (arith, ap length s.list))

pub loop-link-preserved : goal.loop-link-preserved
loop-link-preserved c =
    let cells = c.args.cells.now in
    let s = list_step cells c.loop-link.link c.in-Some.i c.in-Some.is c.loop-link.invariant.0 in
    rw c.from.ensures (s.rest, first_passes c.args.tick cells c.loop-link.link c.in-Some.i s (rw c.from.ensures at c.if-cell-tick.false) ∙ c.loop-link.invariant.1)
