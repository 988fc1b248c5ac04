use Rattle.ledger.proofs.Reclaims.{unmoved}
use Rattle.ledger.proofs.laws.reclaims_move_nothing.Goals as goal

pub returns : goal.returns
returns c = unmoved
