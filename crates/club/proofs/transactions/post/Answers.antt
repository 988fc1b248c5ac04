use Rattle.std.proofs.Common.{Ok, Err}
use Rattle.std.proofs.lemmas.Result.{err_from_is_err_and}
use Rattle.procedures.proofs.Performances.{performs_on, performs_pure, performs_begin}
use Rattle.club.proofs.transactions.post.Goals as goal

pub returns-in_err-handle : goal.returns-in_err-handle
returns-in_err-handle g c =
    let q = err_from_is_err_and c.from_residual.result c.from_residual.ensures.1 in
    rw (q.1, q.2) (performs_on _ (performs_begin (Err c.in_err-handle.field-0.0) c.in_err-handle.ensures.refines c.in_err-handle.ensures.idle) (performs_pure _))

pub returns : goal.returns
returns g c = performs_on _ (performs_begin (Ok c.in_ok-handle.handle) c.in_ok-handle.ensures.refines c.in_ok-handle.ensures.idle) c.commit_with_write.ensures
