use Rattle.ledger.proofs.Totals.{no_keys}
use Rattle.ledger.proofs.laws.a_total_of_no_keys_changes_nothing.Goals as goal

pub returns : goal.returns
returns c = no_keys
