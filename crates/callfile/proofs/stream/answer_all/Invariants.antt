-- The records so far were answered.
use Rattle.callfile.proofs.Running.{Progress}
use Rattle.std.specs.String.{string_bytes}
use Rattle.std.specs.Io.Buffered.{reader_remaining, writer_contents}
use Rattle.callfile.proofs.stream.answer_all.Given as goal

abbrev pub invariant-loop-number : goal.invariant-loop-number
invariant-loop-number g l =
    Progress g.F.Format.decoded g.S.VersionStore.meaning g.V.Validator.meaning l.initial.engine l.engine l.number l.initial.buffer l.buffer
    (reader_remaining g.R.Read.remaining l.initial.input) (reader_remaining g.R.Read.remaining l.input)
    (writer_contents g.W.Write.contents l.initial.output) (writer_contents g.W.Write.contents l.output) (string_bytes l.text)
