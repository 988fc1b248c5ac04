use Rattle.ledger.proofs.Orders.{refusals}
use Rattle.ledger.proofs.laws.refusals_change_nothing.Goals as goal

pub returns : goal.returns
returns c = refusals
