use Rattle.ledger.proofs.Totals.{total}
use Rattle.ledger.proofs.laws.a_total_is_a_read_in_one_figure.Goals as goal

pub returns : goal.returns
returns c = total
