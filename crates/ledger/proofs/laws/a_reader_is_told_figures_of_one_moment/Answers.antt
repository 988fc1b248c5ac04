use Rattle.ledger.proofs.Readers.{figure_moment}
use Rattle.ledger.proofs.laws.a_reader_is_told_figures_of_one_moment.Goals as goal

pub returns : goal.returns
returns c = figure_moment
