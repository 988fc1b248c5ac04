use Rattle.ledger.specs.Faults.{fault_report}
use Rattle.club.specs.Texts.{redone_text}
use Rattle.club.proofs.Texts.{spoken_words}
use Rattle.club.proofs.said.SaidDisplay.fmt.Goals as goal

pub returns-in-Restarted-clause-writes : goal.returns-in-Restarted-clause-writes
returns-in-Restarted-clause-writes g c = λ plain ok.
    let writes = rw (spoken_words redone_text fault_report c.in-Restarted.again) at c.write-in-Restarted.ensures.writes in
    rw c.in-Restarted.is (writes plain ok)
