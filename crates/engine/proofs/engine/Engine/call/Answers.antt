use Rattle.engine.proofs.Histories.{goes_on}
use Rattle.engine.proofs.engine.Engine.call.Goals as goal

pub returns-clause-history : goal.returns-clause-history
returns-clause-history g c = goes_on g.S.VersionStore.meaning g.V.Validator.meaning c.args.self.now c.dispatch.new.self c.args.call c.args.buffer.now _ c.dispatch.new.buffer c.dispatch.ensures.refines
