use Rattle.std.proofs.Common.{rules, ◌≡◌, None, Some, Err}
use Rattle.answer_lines.specs.declared.LineFault.TheVariants.{Malformed, Engine}
use Rattle.procedures.proofs.Performances.{performs_on, performs_pure}
use Rattle.club.proofs.desk.Desk.answer_event.Goals as goal

pub returns-in_err-event-clause-performs : goal.returns-in_err-event-clause-performs
returns-in_err-event-clause-performs g c =
    let none : c.args.event ≡ None = search rules in
    let refused : c.from_residual.result ≡ Err (Malformed c.args.number) = search rules in
    rw (none, refused) (performs_pure _)

pub returns-in_err-act-clause-performs : goal.returns-in_err-act-clause-performs
returns-in_err-act-clause-performs g c =
    let some : c.args.event ≡ Some c.in_ok-event.event = search rules in
    let refused : c.from_residual-in_err-act.result ≡ Err (Engine c.in_err-act.field-0.0) = search rules in
    rw (some, refused) (performs_on _ c.in_err-act.ensures.performs (performs_pure _))

pub returns-clause-performs : goal.returns-clause-performs
returns-clause-performs g c =
    let some : c.args.event ≡ Some c.in_ok-event.event = search rules in
    rw some (performs_on _ c.in_ok-act.ensures.performs (performs_pure _))
