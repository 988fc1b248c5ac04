use Rattle.std.proofs.Common.{Ok, Err}
use Rattle.procedures.proofs.Performances.{performs_on, performs_pure, performs_write, performs_abort, performs_commit}
use Rattle.procedures.proofs.updates.commit_with_write.Goals as goal

pub returns-in-Err : goal.returns-in-Err
returns-in-Err g c =
    performs_on _ (performs_write (Err c.in-Err.fault) c.in-Err.ensures.refines c.in-Err.ensures.idle)
    (performs_on _ (performs_abort c.abort.result c.abort.ensures.refines c.abort.ensures.idle) (performs_pure _))

pub returns : goal.returns
returns g c = performs_on _ (performs_write (Ok tt) c.in_default.ensures.refines c.in_default.ensures.idle) (performs_commit c.commit.result c.commit.ensures.refines c.commit.ensures.idle)
