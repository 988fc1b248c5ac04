use Rattle.std.proofs.lemmas.Result.{err_from_is_err_and}
use Rattle.procedures.proofs.Performances.{performs_on, performs_pure}
use Rattle.club.proofs.transactions.correct.Goals as goal

pub returns-in_err-handle : goal.returns-in_err-handle
returns-in_err-handle g c =
    let q = err_from_is_err_and c.from_residual.result c.from_residual.ensures.1 in
    rw (q.1, q.2) (performs_on _ c.in_err-handle.ensures (performs_pure _))

pub returns : goal.returns
returns g c = performs_on _ c.in_ok-handle.ensures (performs_on _ c.commit_with_write-end.ensures (performs_pure _))
