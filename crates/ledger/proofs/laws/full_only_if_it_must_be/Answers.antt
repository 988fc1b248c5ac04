use Rattle.ledger.proofs.Verdicts.{fulls}
use Rattle.ledger.proofs.laws.full_only_if_it_must_be.Goals as goal

pub returns : goal.returns
returns c = fulls
