use Rattle.ledger.proofs.Verdicts.{stamps_later}
use Rattle.ledger.proofs.laws.a_restart_names_a_later_stamp.Goals as goal

pub returns : goal.returns
returns c = stamps_later
