use Rattle.std.proofs.Common.{rules, ◌≡◌, None, Some}
use Rattle.std.proofs.lemmas.Result.{err_from_is_err_and}
use Rattle.procedures.proofs.Performances.{performs_on, performs_pure}
use Rattle.club.proofs.Recalculations.{not_restarted}
use Rattle.club.proofs.desk.Desk.finish.Goals as goal

pub returns-in_default-clause-performs : goal.returns-in_default-clause-performs
returns-in_default-clause-performs g c =
    let none : c.args.self.now.pending ≡ None = search rules in
    rw (none, c.take.ensures.after) (performs_on _ (performs_pure _) (performs_pure _))

pub returns-in_err-verdict-clause-performs : goal.returns-in_err-verdict-clause-performs
returns-in_err-verdict-clause-performs g c =
    let was : c.args.self.now.pending ≡ Some c.in-Some.work = search rules in
    let q = err_from_is_err_and c.from_residual.result c.from_residual.ensures.1 in
    rw (was, c.take.ensures.after, q.1, q.2) (performs_on _ (performs_on _ c.in_err-verdict.ensures (performs_pure _)) (performs_pure _))

pub returns-in-Restart-clause-performs : goal.returns-in-Restart-clause-performs
returns-in-Restart-clause-performs g c =
    let was : c.args.self.now.pending ≡ Some c.in-Some.work = search rules in
    rw (was, c.take.ensures.after) (performs_on _ (performs_on _ (rw c.in-Restart.is at c.in_ok-verdict.ensures) (performs_on _ c.redo-again.ensures (performs_pure _))) (performs_pure _))

pub returns-in_default-2-clause-performs : goal.returns-in_default-2-clause-performs
returns-in_default-2-clause-performs g c =
    let was : c.args.self.now.pending ≡ Some c.in-Some.work = search rules in
    rw (was, c.take.ensures.after) (performs_on _ (performs_on _ c.in_ok-verdict.ensures (rw (not_restarted c.in-Some.work c.in_ok-verdict.verdict c.in_default-2.not-Restart) (performs_pure _))) (performs_pure _))
