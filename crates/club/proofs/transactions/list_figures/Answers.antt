use Rattle.refusals.specs.Results.{result_map}
use Rattle.std.proofs.Common.{◌≡◌, rules, Ok, Err}
use Rattle.std.proofs.lemmas.Result.{err_from_is_err_and}
use Rattle.club.specs.declared.said.Said.TheVariants.{Figures}
use Rattle.procedures.proofs.Performances.{performs_on, performs_pure, performs_begin, performs_commit}
use Rattle.club.proofs.Moments.{figures_now}
use Rattle.club.proofs.transactions.list_figures.Goals as goal

pub returns-in_err-slip-clause-performs : goal.returns-in_err-slip-clause-performs
returns-in_err-slip-clause-performs g c =
    let q = err_from_is_err_and c.from_residual.result c.from_residual.ensures.1 in
    rw (q.1, q.2) (performs_on _ (performs_begin (Err c.in_err-slip.field-0.0) c.in_err-slip.ensures.refines c.in_err-slip.ensures.idle) (performs_pure _))

pub returns-clause-performs : goal.returns-clause-performs
returns-clause-performs g c =
    let r : c.map.result ≡ result_map Figures c.tell_figures-figures.result = search rules in
    let told = rw c.handle.ensures at c.tell_figures-figures.ensures.performs in
    rw r
    (performs_on _ (performs_begin (Ok _) c.in_ok-slip.ensures.refines c.in_ok-slip.ensures.idle)
    (performs_on _ told
    (performs_on _ (performs_commit c.commit_under.result c.commit_under.ensures.refines c.commit_under.ensures.idle) (performs_pure _))))

pub returns-clause-now : goal.returns-clause-now
returns-clause-now g c =
    let r : c.map.result ≡ result_map Figures c.tell_figures-figures.result = search rules in
    let told = rw c.handle.ensures at c.tell_figures-figures.ensures.opening in
    rw r (figures_now g.S.VersionStore.meaning g.V.Validator.meaning c.args.engine.now c.begin_slip.new.self c.in_ok-slip.slip.handle c.args.first c.args.count c.tell_figures-figures.result c.in_ok-slip.ensures.refines told)
