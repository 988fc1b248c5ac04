use Rattle.std.proofs.Common.{◌≡◌, ◌+◌, ◌-◌, Bool, length, take, drop, sym, ap, ◌∙◌, arith}
use Rattle.std.proofs.lemmas.List.{take_rest}
use Rattle.stamped.proofs.Closings.{closing_none, closing_more_gone, closing_more_kept, closing_count, closing_places}
use Rattle.stamped.proofs.gaps.close_gaps.Goals as goal
use Rattle.stamped.proofs.gaps.close_gaps.Goals.{then-not-drops, else-not-drops}

pub loop-i-init : goal.loop-i-init
loop-i-init g c = closing_none (g.R.Drops.drops c.args.rule.now) c.args.records.now

pub loop-i-preserved : goal.loop-i-preserved
loop-i-preserved g c =
    let rule = g.R.Drops.drops c.args.rule.now in
    let ys = c.loop-i.records in
    let i = c.loop-i.i in
    let told : ◌≡◌ {A = Bool} c.drops.result (rule c.index-records-i.result (take (length ys - (i + 1)) (drop (i + 1) ys))) = c.drops.ensures in
    let judged = told ∙ ap (rule c.index-records-i.result) (take_rest ys (i + 1)) in
    elim c.if-not-drops.branch [
      | then-not-drops w ↦ rw (w.records-is, w.left-is) (closing_more_kept rule c.args.records.now ys c.loop-i.left i c.index-records-i.result c.loop-i.invariant (omega arith) c.index-records-i.is (sym judged ∙ w.if-not-drops.true))
      | else-not-drops w ↦ rw (w.records-is, w.left-is) (closing_more_gone rule c.args.records.now ys c.loop-i.left i c.index-records-i.result c.loop-i.invariant (omega arith) c.index-records-i.is (sym judged ∙ w.if-not-drops.false))
    ]

pub returns : goal.returns
returns g c =
    record {
      count = closing_count (g.R.Drops.drops c.args.rule.now) c.args.records.now c.loop-i.records c.loop-i.left c.loop-i.i c.loop-i.invariant (omega arith) (omega arith);
      places = closing_places (g.R.Drops.drops c.args.rule.now) c.args.records.now c.loop-i.records c.loop-i.left c.loop-i.i c.loop-i.invariant (omega arith) (omega arith);
    }
