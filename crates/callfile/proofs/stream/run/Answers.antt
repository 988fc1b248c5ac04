use Rattle.std.specs.Io.Buffered.{reader_remaining, writer_contents}
use Rattle.std.proofs.lemmas.Result.{on_ok_weaker}
use Rattle.callfile.proofs.Running.{on_err, known_file, stops_at_end}
use Rattle.callfile.proofs.stream.run.Goals as goal

pub returns-clause-file : goal.returns-clause-file
returns-clause-file g c =
    let d = g.F.Format.decoded in
    let m = g.S.VersionStore.meaning in
    let p = g.V.Validator.meaning in
    on_ok_weaker c.flush.result
    (λ _. known_file d m p c.args.engine.now c.answer_all.new.engine c.args.buffer.now c.answer_all.new.buffer
    (reader_remaining g.R.Read.remaining c.args.input.now) (reader_remaining g.R.Read.remaining c.answer_all.new.input)
    (writer_contents g.W.Write.contents c.args.output.now) (writer_contents g.W.Write.contents c.answer_all.new.output) (writer_contents g.W.Write.contents c.flush.new.self)
    c.in_ok-answer_all.ensures c.flush.ensures.bytes)
    c.flush.ensures.ok

pub returns-clause-err : goal.returns-clause-err
returns-clause-err g c =
    on_err c.flush.result
    (stops_at_end g.F.Format.decoded g.S.VersionStore.meaning g.V.Validator.meaning (writer_contents g.W.Write.contents c.flush.new.self) c.in_ok-answer_all.ensures c.flush.ensures.bytes)
