-- The lines so far were answered.
use Rattle.std.specs.Io.Buffered.{reader_remaining, writer_contents}
use Rattle.club.proofs.Afternoons.{Telling}
use Rattle.club.proofs.afternoon.answer_each.Given as goal

abbrev pub invariant-loop-number : goal.invariant-loop-number
invariant-loop-number g l =
    Telling g.S.VersionStore.meaning g.V.Validator.meaning g.T.VersionStore.meaning g.U.Validator.meaning l.initial.one l.one l.initial.other l.other
    (reader_remaining g.R.Read.remaining l.initial.input) (reader_remaining g.R.Read.remaining l.input) (writer_contents g.W.Write.contents l.initial.output) (writer_contents g.W.Write.contents l.output) l.number l.apart
