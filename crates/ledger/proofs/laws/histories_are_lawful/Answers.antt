use Rattle.ledger.proofs.Whole.{lawful}
use Rattle.ledger.proofs.laws.histories_are_lawful.Goals as goal

pub returns : goal.returns
returns c = lawful
