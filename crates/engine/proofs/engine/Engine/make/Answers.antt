use Rattle.std.proofs.Common.{ap, rules}
use Rattle.transaction_table.specs.View.{active_of}
use Rattle.engine.proofs.SetUps.{new_fits}
use Rattle.engine.proofs.engine.Engine.make.Goals as goal

pub returns-clause-fits : goal.returns-clause-fits
returns-clause-fits g c = new_fits c.args.last (g.S.VersionStore.meaning c.args.store) (g.V.Validator.meaning c.args.validator) c.new.result (search rules) (ap (λ t. t.clock) c.new.ensures) (ap (λ t. active_of t.records) c.new.ensures)
