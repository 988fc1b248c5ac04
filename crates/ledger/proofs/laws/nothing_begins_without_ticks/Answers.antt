use Rattle.ledger.proofs.Orders.{idles}
use Rattle.ledger.proofs.laws.nothing_begins_without_ticks.Goals as goal

pub returns : goal.returns
returns c = idles
