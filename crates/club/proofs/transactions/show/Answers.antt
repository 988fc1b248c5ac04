use Rattle.std.proofs.Common.{Ok, Err}
use Rattle.std.proofs.lemmas.Result.{err_from_is_err_and}
use Rattle.procedures.proofs.Performances.{performs_on, performs_pure, performs_read}
use Rattle.club.proofs.Moments.{show_opening}
use Rattle.club.proofs.transactions.show.Goals as goal

pub returns-in_err-read : goal.returns-in_err-read
returns-in_err-read g c =
    let q = err_from_is_err_and c.from_residual.result c.from_residual.ensures.1 in
    rw (q.1, q.2) (record { performs = performs_on _ (performs_read (Err c.in_err-read.field-0.0) c.in_err-read.ensures.refines c.in_err-read.ensures.idle) (performs_pure _); opening = tt })

pub returns : goal.returns
returns g c =
    record {
      performs = performs_on _ (performs_read (Ok tt) c.in_ok-read.ensures.refines c.in_ok-read.ensures.idle) (performs_pure _);
      opening = show_opening g.S.VersionStore.meaning g.V.Validator.meaning c.args.engine.now c.read.new.self c.args.report c.read.new.buffer c.in_ok-read.ensures.refines;
    }
