use Rattle.std.proofs.Common.{take, arith}
use Rattle.transaction_table.specs.View.{view}
use Rattle.engine.specs.Reads.{read_value}
use Rattle.engine.proofs.Fills.{fill_more}
use Rattle.engine.proofs.engine.reading.fill.Goals as goal

pub loop-i-preserved : goal.loop-i-preserved
loop-i-preserved g c = fill_more (read_value (g.S.VersionStore.meaning c.args.store.now) (view c.args.transaction.now)) c.args.range.first c.loop-i.i _ (take c.from.result c.args.buffer.now) c.loop-i.front (omega (arith, c.loop-i-test.true)) c.loop-i.invariant c.value_at.ensures
