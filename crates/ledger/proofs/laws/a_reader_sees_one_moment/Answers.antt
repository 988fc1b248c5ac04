use Rattle.ledger.proofs.Readers.{moment}
use Rattle.ledger.proofs.laws.a_reader_sees_one_moment.Goals as goal

pub returns : goal.returns
returns c = moment
