use Rattle.std.proofs.Common.{Ok, Err}
use Rattle.std.proofs.lemmas.Result.{err_from_is_err_and}
use Rattle.procedures.proofs.Performances.{performs_on, performs_pure, performs_begin, performs_read, performs_commit}
use Rattle.club.specs.Moments.{club_in}
use Rattle.club.proofs.Moments.{opened_now, show_opening}
use Rattle.club.proofs.transactions.list.Goals as goal

pub returns-in_err-slip : goal.returns-in_err-slip
returns-in_err-slip g c =
    let q = err_from_is_err_and c.from_residual.result c.from_residual.ensures.1 in
    rw (q.1, q.2) (record { performs = performs_on _ (performs_begin (Err c.in_err-slip.field-0.0) c.in_err-slip.ensures.refines c.in_err-slip.ensures.idle) (performs_pure _); now = tt })

pub returns-in_err-read : goal.returns-in_err-read
returns-in_err-read g c =
    let q = err_from_is_err_and c.from_residual-in_err-read.result c.from_residual-in_err-read.ensures.1 in
    rw (q.1, q.2)
    (record {
      performs = performs_on _ (performs_begin (Ok _) c.in_ok-slip.ensures.refines c.in_ok-slip.ensures.idle)
          (performs_on _ (performs_read (Err c.in_err-read.field-0.0) c.in_err-read.ensures.refines c.in_err-read.ensures.idle)
          (performs_on _ (performs_commit c.commit_under.result c.commit_under.ensures.refines c.commit_under.ensures.idle) (performs_pure _)));
      now = tt;
    })

pub returns-clause-performs : goal.returns-clause-performs
returns-clause-performs g c =
    performs_on _ (performs_begin (Ok _) c.in_ok-slip.ensures.refines c.in_ok-slip.ensures.idle)
    (performs_on _ (performs_read (Ok tt) c.in_ok-read.ensures.refines c.in_ok-read.ensures.idle)
    (performs_on _ (performs_commit c.commit_under.result c.commit_under.ensures.refines c.commit_under.ensures.idle) (performs_pure _)))

pub returns-clause-now : goal.returns-clause-now
returns-clause-now g c =
    opened_now g.S.VersionStore.meaning g.V.Validator.meaning c.args.engine.now c.begin_slip.new.self c.in_ok-slip.slip.handle club_in _ c.in_ok-slip.ensures.refines
    (show_opening g.S.VersionStore.meaning g.V.Validator.meaning c.begin_slip.new.self c.read_under-read.new.self c.in_ok-slip.slip.handle c.read_under-read.new.buffer c.in_ok-read.ensures.refines)
