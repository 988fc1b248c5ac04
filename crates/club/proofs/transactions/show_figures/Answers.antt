use Rattle.refusals.specs.Results.{result_map}
use Rattle.std.proofs.Common.{◌≡◌, rules}
use Rattle.club.specs.declared.said.Said.TheVariants.{Figures}
use Rattle.procedures.proofs.Performances.{performs_on, performs_pure}
use Rattle.club.proofs.transactions.show_figures.Goals as goal

pub returns-clause-performs : goal.returns-clause-performs
returns-clause-performs g c =
    let r : c.map.result ≡ result_map Figures c.tell_figures.result = search rules in
    rw r (performs_on _ c.tell_figures.ensures.performs (performs_pure _))
