use Rattle.std.specs.Io.Buffered.{reader_remaining, writer_contents}
use Rattle.std.proofs.Common.{refl}
use Rattle.versions.specs.LogStores.{log_meaning}
use Rattle.validation.specs.RecentLists.{list_meaning}
use Rattle.engine.specs.declared.engine.TheConstants.{LAST_TICK}
use Rattle.callfile.specs.Programs.{program_limits}
use Rattle.engine.proofs.SetUps.{made_with}
use Rattle.callfile.proofs.Programs.{writes}
use Rattle.calllog.proofs.answer_file.Goals as goal

pub returns : goal.returns
returns g c =
    let engine = c.make-engine.ensures in
    let fits = made_with log_meaning list_meaning program_limits LAST_TICK _ _ c.make-store.result c.make-validator.result c.make-engine.result refl c.make-store.ensures.empty c.make-validator.ensures.fresh engine.fits engine.store engine.validator engine.last in
    let run = c.run.ensures in
    let written = writes log_meaning list_meaning c.make-engine.result c.run.new.engine c.run.new.buffer (reader_remaining g.R.Read.remaining c.args.input.now) (reader_remaining g.R.Read.remaining c.run.new.input)
    (writer_contents g.W.Write.contents c.args.output.now) (writer_contents g.W.Write.contents c.run.new.output) c.run.result fits run.file run.taken run.err in
    record { all = written.all; taken = written.taken; flushed = run.flushed; err = written.err }
