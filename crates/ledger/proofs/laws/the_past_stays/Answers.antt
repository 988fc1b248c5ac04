use Rattle.ledger.proofs.Verdicts.{past_stays}
use Rattle.ledger.proofs.laws.the_past_stays.Goals as goal

pub returns : goal.returns
returns c = past_stays
