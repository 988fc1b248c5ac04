use Rattle.ledger.proofs.Times.{time}
use Rattle.ledger.proofs.laws.order_keeps_time.Goals as goal

pub returns : goal.returns
returns c = time
