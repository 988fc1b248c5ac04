use Rattle.refusals.specs.Results.{result_map}
use Rattle.std.proofs.Common.{rules, ◌≡◌}
use Rattle.club.specs.declared.said.Said.TheVariants.{Ended as SaidEnded, Report as SaidReport}
use Rattle.procedures.proofs.Performances.{performs_on, performs_pure, performs_begin, performs_commit, performs_reclaim}
use Rattle.club.proofs.desk.Desk.act.Goals as goal

pub returns-in-Card-clause-performs : goal.returns-in-Card-clause-performs
returns-in-Card-clause-performs g c = rw c.in-Card.is (performs_on _ c.post.ensures (performs_pure _))

pub returns-in-Correction-clause-performs : goal.returns-in-Correction-clause-performs
returns-in-Correction-clause-performs g c = rw c.in-Correction.is (performs_on _ c.correct.ensures (performs_pure _))

pub returns-in-List-clause-performs : goal.returns-in-List-clause-performs
returns-in-List-clause-performs g c = rw c.in-List.is (performs_on _ c.list.ensures.performs (performs_pure _))

pub returns-in-Figures-clause-performs : goal.returns-in-Figures-clause-performs
returns-in-Figures-clause-performs g c = rw c.in-Figures.is (performs_on _ c.list_figures.ensures.performs (performs_pure _))

pub returns-in-ShowFigures-clause-performs : goal.returns-in-ShowFigures-clause-performs
returns-in-ShowFigures-clause-performs g c = rw c.in-ShowFigures.is (performs_on _ c.show_figures.ensures.performs (performs_pure _))

pub returns-in-Show-clause-performs : goal.returns-in-Show-clause-performs
returns-in-Show-clause-performs g c = rw c.in-Show.is (performs_on _ c.show.ensures.performs (performs_pure _))

pub returns-in-CleanUp-clause-performs : goal.returns-in-CleanUp-clause-performs
returns-in-CleanUp-clause-performs g c = rw c.in-CleanUp.is (performs_on _ (performs_reclaim c.reclaim.result c.reclaim.ensures.refines c.reclaim.ensures.idle) (performs_pure _))

pub returns-in-Report-clause-performs : goal.returns-in-Report-clause-performs
returns-in-Report-clause-performs g c =
    let r : c.map.result ≡ result_map SaidReport c.begin.result = search rules in
    rw (c.in-Report.is, r) (performs_on _ (performs_begin c.begin.result c.begin.ensures.refines c.begin.ensures.idle) (performs_pure _))

pub returns-in-Close-clause-performs : goal.returns-in-Close-clause-performs
returns-in-Close-clause-performs g c =
    let r : c.map-in-Close.result ≡ result_map SaidEnded c.commit.result = search rules in
    rw (c.in-Close.is, r) (performs_on _ (performs_commit c.commit.result c.commit.ensures.refines c.commit.ensures.idle) (performs_pure _))
