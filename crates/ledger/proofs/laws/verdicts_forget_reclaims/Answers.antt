use Rattle.ledger.proofs.Reclaims.{verdicts}
use Rattle.ledger.proofs.laws.verdicts_forget_reclaims.Goals as goal

pub returns : goal.returns
returns c = verdicts
