use Rattle.std.proofs.Common.{sym, ◌∙◌}
use Rattle.callfile.proofs.Answering.{answers_malformed}
use Rattle.callfile.proofs.answer.answer.Goals as goal

pub returns-in_err-call-clause-answers : goal.returns-in_err-call-clause-answers
returns-in_err-call-clause-answers g c = answers_malformed _ _ _ _ (sym c.decode.ensures ∙ c.in_err-call.ensures.ok_part)
