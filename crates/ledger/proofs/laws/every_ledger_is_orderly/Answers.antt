use Rattle.ledger.proofs.Orders.{orderly}
use Rattle.ledger.proofs.laws.every_ledger_is_orderly.Goals as goal

pub returns : goal.returns
returns c = orderly
