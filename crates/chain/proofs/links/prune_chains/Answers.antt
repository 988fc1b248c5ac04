use Rattle.std.proofs.Common.{◌+◌, ◌<◌, length, arith}
use Rattle.chain.proofs.Chains.{length_list}
use Rattle.chain.proofs.Prunes.{IsPrunedUpTo, cut_loose, pruning_more, pruning_all}
use Rattle.chain.proofs.links.prune_chains.Goals as goal

pub give_back-link-requires : goal.give_back-link-requires
give_back-link-requires c =
    let low : c.loop-head.head-index < length c.args.heads.now = omega arith in
    let loose = cut_loose c.args.horizon c.args.heads.now c.loop-head.cells c.loop-head.unused c.loop-head.head-index low c.loop-head.invariant.sound
    c.cut_below-tail.new.cells c.cut_below-tail.result c.cut_below-tail.ensures.after c.cut_below-tail.ensures.tail in
    record { ended = loose.ended; once = loose.once; few = omega (arith, c.requires.few) }

pruning_on : (c : goal.After-cells-in-loop-head-1) → IsPrunedUpTo c.args.horizon c.args.heads.now c.args.cells.now c.args.unused c.give_back-link.new.cells c.give_back-link.result.0 (c.loop-head.freed + c.give_back-link.result.1) (c.loop-head.head-index + 1)
pruning_on c =
    let low : c.loop-head.head-index < length c.args.heads.now = omega arith in
    pruning_more c.args.horizon c.args.heads.now c.args.cells.now c.args.unused c.loop-head.cells c.loop-head.unused c.loop-head.freed c.loop-head.head-index low c.requires.falling c.loop-head.invariant
    c.cut_below-tail.new.cells c.give_back-link.new.cells c.cut_below-tail.result c.give_back-link.result.0 c.give_back-link.result.1
    c.cut_below-tail.ensures.after c.cut_below-tail.ensures.tail c.give_back-link.ensures.after c.give_back-link.ensures.unused c.give_back-link.ensures.count

pub overflow_add-freed : goal.overflow_add-freed
overflow_add-freed c =
    let p = pruning_on c in
    omega (arith, p.freed, p.long, length_list c.give_back-link.new.cells c.give_back-link.result.0, c.requires.few)

pub loop-head-preserved : goal.loop-head-preserved
loop-head-preserved c = pruning_on c

pub returns : goal.returns
returns c =
    pruning_all c.args.horizon c.args.heads.now c.args.cells.now c.args.unused c.loop-head.cells c.loop-head.unused c.loop-head.freed c.loop-head.head-index (omega arith) c.requires.sound c.requires.falling c.loop-head.invariant
