use Rattle.std.proofs.Common.{Ok, Err, arith}
use Rattle.std.proofs.lemmas.Result.{err_from_is_err_and}
use Rattle.procedures.proofs.Performances.{performs_on, performs_pure, performs_sum, performs_smallest, performs_non_zero, sum_refines, smallest_refines, non_zero_refines}
use Rattle.club.proofs.Moments.{figures_opening}
use Rattle.club.proofs.transactions.tell_figures.Goals as goal

pub returns-in_err-sum-clause-performs : goal.returns-in_err-sum-clause-performs
returns-in_err-sum-clause-performs g c =
    let q = err_from_is_err_and c.from_residual.result c.from_residual.ensures.1 in
    rw (q.1, q.2) (performs_on _ (performs_sum (Err c.in_err-sum.field-0.0) c.in_err-sum.ensures.refines c.in_err-sum.ensures.idle) (performs_pure _))

pub returns-in_err-smallest-clause-performs : goal.returns-in_err-smallest-clause-performs
returns-in_err-smallest-clause-performs g c =
    let q = err_from_is_err_and c.from_residual-in_err-smallest.result c.from_residual-in_err-smallest.ensures.1 in
    rw (q.1, q.2)
    (performs_on _ (performs_sum (Ok c.in_ok-sum.sum) c.in_ok-sum.ensures.refines c.in_ok-sum.ensures.idle)
    (performs_on _ (performs_smallest (Err c.in_err-smallest.field-0.0) c.in_err-smallest.ensures.refines c.in_err-smallest.ensures.idle) (performs_pure _)))

pub returns-in_err-number-clause-performs : goal.returns-in_err-number-clause-performs
returns-in_err-number-clause-performs g c =
    let q = err_from_is_err_and c.from_residual-in_err-number.result c.from_residual-in_err-number.ensures.1 in
    rw (q.1, q.2)
    (performs_on _ (performs_sum (Ok c.in_ok-sum.sum) c.in_ok-sum.ensures.refines c.in_ok-sum.ensures.idle)
    (performs_on _ (performs_smallest (Ok c.in_ok-smallest.smallest) c.in_ok-smallest.ensures.refines c.in_ok-smallest.ensures.idle)
    (performs_on _ (performs_non_zero (omega (arith, c.ranges.count.fits)) (Err c.in_err-number.field-0.0) c.in_err-number.ensures.refines c.in_err-number.ensures.idle) (performs_pure _))))

pub returns-clause-performs : goal.returns-clause-performs
returns-clause-performs g c =
    performs_on _ (performs_sum (Ok c.in_ok-sum.sum) c.in_ok-sum.ensures.refines c.in_ok-sum.ensures.idle)
    (performs_on _ (performs_smallest (Ok c.in_ok-smallest.smallest) c.in_ok-smallest.ensures.refines c.in_ok-smallest.ensures.idle)
    (performs_on _ (performs_non_zero (omega (arith, c.ranges.count.fits)) (Ok c.in_ok-number.number) c.in_ok-number.ensures.refines c.in_ok-number.ensures.idle) (performs_pure _)))

pub returns-clause-opening : goal.returns-clause-opening
returns-clause-opening g c =
    let m = g.S.VersionStore.meaning in
    let p = g.V.Validator.meaning in
    figures_opening m p c.args.handle c.args.first c.args.count c.args.engine.now c.total.new.self c.total-2.new.self c.total-3.new.self _ _ _
    (sum_refines m p (Ok c.in_ok-sum.sum) c.in_ok-sum.ensures.refines)
    (smallest_refines m p (Ok c.in_ok-smallest.smallest) c.in_ok-smallest.ensures.refines)
    (non_zero_refines m p (omega (arith, c.ranges.count.fits)) (Ok c.in_ok-number.number) c.in_ok-number.ensures.refines)
