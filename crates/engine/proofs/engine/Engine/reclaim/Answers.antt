use Rattle.std.proofs.Common.{arith}
use Rattle.engine.proofs.Reclaims.{reclaim_idle, reclaim_steps}
use Rattle.engine.proofs.engine.Engine.reclaim.Goals as goal

pub returns-then-self-eq0-clause-refines : goal.returns-then-self-eq0-clause-refines
returns-then-self-eq0-clause-refines g c b l f = reclaim_idle f c.if-self-eq0.true b

pub returns-clause-refines : goal.returns-clause-refines
returns-clause-refines g c b l f = reclaim_steps f (omega (arith, c.if-self-eq0.false)) b _ _ _ c.prune-removed.ensures.count c.prune-removed.ensures.after c.trim.ensures (omega (arith, c.least_start.ensures)) (omega (arith, c.least_start-2.ensures))
