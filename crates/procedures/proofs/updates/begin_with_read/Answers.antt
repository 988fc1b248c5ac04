use Rattle.std.proofs.Common.{Ok, Err}
use Rattle.std.proofs.lemmas.Result.{err_from_is_err_and}
use Rattle.procedures.proofs.Performances.{performs_on, performs_pure, performs_begin, performs_read, performs_abort}
use Rattle.procedures.proofs.updates.begin_with_read.Goals as goal

pub returns-in_err-handle : goal.returns-in_err-handle
returns-in_err-handle g c =
    let q = err_from_is_err_and c.from_residual.result c.from_residual.ensures.1 in
    rw (q.1, q.2) (performs_on _ (performs_begin (Err c.in_err-handle.field-0.0) c.in_err-handle.ensures.refines c.in_err-handle.ensures.idle) (performs_pure _))

pub returns-in-Err : goal.returns-in-Err
returns-in-Err g c =
    performs_on _ (performs_begin (Ok c.in_ok-handle.handle) c.in_ok-handle.ensures.refines c.in_ok-handle.ensures.idle)
    (performs_on _ (performs_read (Err c.in-Err.fault) c.in-Err.ensures.refines c.in-Err.ensures.idle)
    (performs_on _ (performs_on _ (performs_abort c.abort.result c.abort.ensures.refines c.abort.ensures.idle) (performs_pure _)) (performs_pure _)))

pub returns : goal.returns
returns g c =
    performs_on _ (performs_begin (Ok c.in_ok-handle.handle) c.in_ok-handle.ensures.refines c.in_ok-handle.ensures.idle)
    (performs_on _ (performs_read (Ok tt) c.in_default.ensures.refines c.in_default.ensures.idle) (performs_on _ (performs_pure _) (performs_pure _)))
