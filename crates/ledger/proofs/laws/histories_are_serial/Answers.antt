use Rattle.ledger.proofs.Whole.{serial}
use Rattle.ledger.proofs.laws.histories_are_serial.Goals as goal

pub returns : goal.returns
returns c = serial
