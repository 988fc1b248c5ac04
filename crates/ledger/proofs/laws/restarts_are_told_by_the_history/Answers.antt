use Rattle.ledger.proofs.Restarts.{restart_law}
use Rattle.ledger.proofs.laws.restarts_are_told_by_the_history.Goals as goal

pub returns : goal.returns
returns c = restart_law
