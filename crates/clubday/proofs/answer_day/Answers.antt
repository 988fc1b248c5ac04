use Rattle.std.specs.Io.Buffered.{reader_remaining, writer_contents}
use Rattle.std.specs.Str.Lines.{lines}
use Rattle.std.proofs.lemmas.Option.{IfSome_then}
use Rattle.std.proofs.lemmas.Result.{on_ok_weaker}
use Rattle.versions.specs.LogStores.{log_meaning}
use Rattle.chain.specs.ChainStores.{chain_meaning}
use Rattle.validation.specs.RecentLists.{list_meaning}
use Rattle.validation.specs.StampTables.{table_meaning}
use Rattle.engine.proofs.SetUps.{made_with}
use Rattle.clubday.specs.Day.{day_limits}
use Rattle.clubday.proofs.Limits.{log, recent, chain, stamp_table, first_limits, second_limits, lines_day}
use Rattle.clubday.proofs.answer_day.Goals as goal

pub returns : goal.returns
returns g c =
    let first = c.make-first.ensures in
    let second = c.make-second.ensures in
    let one = made_with log_meaning list_meaning day_limits 54 log recent c.make-log.result c.make-recent.result c.make-first.result first_limits c.make-log.ensures.empty c.make-recent.ensures.fresh first.fits first.store first.validator first.last in
    let other = made_with chain_meaning table_meaning day_limits 54 chain stamp_table c.make-chain.result c.make-table.result c.make-second.result second_limits c.make-chain.ensures.empty c.make-table.ensures.fresh second.fits second.store second.validator second.last in
    let old = writer_contents g.W.Write.contents c.args.output.now in
    let new = writer_contents g.W.Write.contents c.run.new.output in
    let day = lines_day log_meaning list_meaning chain_meaning table_meaning c.make-first.result c.make-second.result c.new-one.result c.run.new.one c.new-other.result c.run.new.other old new one other c.new-one.ensures c.new-other.ensures in
    record {
      text = on_ok_weaker c.run.result (λ known. IfSome_then (reader_remaining g.R.Read.remaining c.args.input.now) known (λ text says few. day (lines text) (says few))) c.run.ensures.known;
      taken = on_ok_weaker c.run.result (λ some. (some.0, day some.0 some.1)) c.run.ensures.taken;
      flushed = c.run.ensures.flushed;
    }
