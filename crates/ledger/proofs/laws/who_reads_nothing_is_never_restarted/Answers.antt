use Rattle.ledger.proofs.Verdicts.{blind}
use Rattle.ledger.proofs.laws.who_reads_nothing_is_never_restarted.Goals as goal

pub returns : goal.returns
returns c = blind
