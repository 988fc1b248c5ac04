use Rattle.std.proofs.Common.{ap, sym, subst, true≢false}
use Rattle.std.specs.Bool.{IsTrue}
use Rattle.club.proofs.afternoon.answer_line.Goals as goal

pub returns : goal.returns
returns g c =
    record {
      said = c.answer_event.result;
      other_said = c.answer_event-2.result;
      one = rw (← c.parse-event.ensures) c.answer_event.ensures.performs;
      other = rw (← c.parse-event.ensures) c.answer_event-2.ensures.performs;
      agree = λ e. absurd (true≢false (sym (subst IsTrue c.if-are_same.false (c.are_same.ensures.same (ap (λ r. record { 0 = r }) e)))));
      written = λ e. absurd (true≢false (sym (subst IsTrue c.if-are_same.false (c.are_same.ensures.same (ap (λ r. record { 0 = r }) e)))));
    }
