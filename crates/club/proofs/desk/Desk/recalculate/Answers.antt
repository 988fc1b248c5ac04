use Rattle.std.proofs.Common.{rules, ◌≡◌, None}
use Rattle.std.proofs.lemmas.Result.{err_from_is_err_and}
use Rattle.procedures.proofs.Performances.{performs_on, performs_pure}
use Rattle.club.proofs.Recalculations.{stays_open}
use Rattle.club.proofs.desk.Desk.recalculate.Goals as goal

pub returns-then-is_some-clause-performs : goal.returns-then-is_some-clause-performs
returns-then-is_some-clause-performs g c = rw (stays_open c.args.first c.args.count c.args.index c.args.self.now.pending (search rules)) (performs_pure _)

pub returns-in_err-work-clause-performs : goal.returns-in_err-work-clause-performs
returns-in_err-work-clause-performs g c =
    let none : c.args.self.now.pending ≡ None = search rules in
    let q = err_from_is_err_and c.from_residual.result c.from_residual.ensures.1 in
    rw (none, q.1, q.2) (performs_on _ c.in_err-work.ensures (performs_pure _))

pub returns-clause-performs : goal.returns-clause-performs
returns-clause-performs g c =
    let none : c.args.self.now.pending ≡ None = search rules in
    rw none (performs_on _ c.in_ok-work.ensures (performs_pure _))
