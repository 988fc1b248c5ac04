use Rattle.engine.proofs.CallSteps.{begin_steps}
use Rattle.engine.proofs.engine.Engine.begin.Goals as goal

pub returns-clause-refines : goal.returns-clause-refines
returns-clause-refines g c b l f = begin_steps f c.args.kind b c.begin.result c.begin.new.self c.begin.ensures.answer c.begin.ensures.after c.begin.ensures.refusal c.begin.ensures.active
