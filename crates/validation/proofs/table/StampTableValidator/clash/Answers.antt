use Rattle.std.proofs.Common.{None, ap, arith}
use Rattle.validation.proofs.Answering.{clash_answered, clash_hit}
use Rattle.validation.specs.Table.{table_stamps}
use Rattle.std.proofs.Common.{slice_index_or}
use Rattle.validation.proofs.table.StampTableValidator.clash.Goals as goal

pub returns-then-stamp-start : goal.returns-then-stamp-start
returns-then-stamp-start c =
    let t = c.args.self.now in
    let same = ap (λ g. slice_index_or t.stamps.now g 0) c.from-in-loop-key.ensures in
    clash_hit (table_stamps t.keys t.grain t.stamps.now) c.args.start c.args.first c.args.count c.loop-key.key _ _ (omega arith) (omega arith) (omega arith) (omega arith) same (omega arith) c.loop-key.invariant

pub returns : goal.returns
returns c =
    let t = c.args.self.now in
    clash_answered (table_stamps t.keys t.grain t.stamps.now) c.args.start c.args.first c.args.count None (omega arith) (λ j from upto. c.loop-key.invariant j from (omega arith))
