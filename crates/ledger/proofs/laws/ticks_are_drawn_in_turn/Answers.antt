use Rattle.ledger.proofs.Times.{ticks}
use Rattle.ledger.proofs.laws.ticks_are_drawn_in_turn.Goals as goal

pub returns : goal.returns
returns c = ticks
