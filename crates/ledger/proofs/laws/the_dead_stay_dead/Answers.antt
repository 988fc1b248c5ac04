use Rattle.ledger.proofs.Orders.{dead_stays}
use Rattle.ledger.proofs.laws.the_dead_stay_dead.Goals as goal

pub returns : goal.returns
returns c = dead_stays
