use Rattle.std.proofs.Common.{sym, ◌∙◌, arith}
use Rattle.transaction_table.specs.View.{view}
use Rattle.engine.proofs.Commits.{judge_restart, judge_spent, judge_full, judge_committed}
use Rattle.engine.proofs.engine.Engine.judge.Goals as goal

pub returns-in-Some-clause-judges : goal.returns-in-Some-clause-judges
returns-in-Some-clause-judges g c l b f e r = judge_restart f (view c.args.updater.now) e r c.reclaim_if_short.ensures.table c.as_slice-writes.result.now c.as_slice-writes.ensures (c.reclaim_if_short.ensures.fits l) b c.in-Some.field-0 (sym c.in-Some.is ∙ c.clash.ensures)

pub returns-then-self-clause-judges : goal.returns-then-self-clause-judges
returns-then-self-clause-judges g c l b f e r = judge_spent f (view c.args.updater.now) e r c.reclaim_if_short.ensures.table c.as_slice-writes.result.now c.as_slice-writes.ensures (c.reclaim_if_short.ensures.fits l) (sym c.in_default.is ∙ c.clash.ensures) b (omega (arith, c.if-self.true))

pub returns-in-Some-shortage-clause-judges : goal.returns-in-Some-shortage-clause-judges
returns-in-Some-shortage-clause-judges g c l b f e r = judge_full f (view c.args.updater.now) e r c.reclaim_if_short.ensures.table c.as_slice-writes.result.now c.as_slice-writes.ensures (c.reclaim_if_short.ensures.fits l) (sym c.in_default.is ∙ c.clash.ensures) (omega (arith, c.if-self.false)) b c.in-Some-shortage.free (sym c.in-Some-shortage.is ∙ c.shortage.ensures)

pub returns-clause-judges : goal.returns-clause-judges
returns-clause-judges g c l b f e r = judge_committed f (view c.args.updater.now) e r c.reclaim_if_short.ensures.table c.as_slice-writes.result.now c.as_slice-writes.ensures (c.reclaim_if_short.ensures.fits l) (sym c.in_default.is ∙ c.clash.ensures) (omega (arith, c.if-self.false)) b (sym c.in_default-shortage.is ∙ c.shortage.ensures) _ _ _ c.install.ensures.table c.install.ensures.store c.install.ensures.validator
