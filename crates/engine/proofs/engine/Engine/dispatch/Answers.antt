use Rattle.std.proofs.Common.{◌≡◌, rules}
use Rattle.refusals.specs.Results.{result_map}
use Rattle.ledger.specs.declared.Done.TheVariants.{Total as TotalDone}
use Rattle.engine.proofs.engine.Engine.dispatch.Goals as goal

pub returns-in-Total-clause-refines : goal.returns-in-Total-clause-refines
returns-in-Total-clause-refines g c l f =
    let r : c.map-in-Total.result ≡ result_map TotalDone c.figure.result = search rules in
    rw (c.in-Total.is, r) (c.figure.ensures.refines c.args.buffer.now l f)

pub returns-in-Reclaim-clause-refines : goal.returns-in-Reclaim-clause-refines
returns-in-Reclaim-clause-refines g c l f = rw c.in-Reclaim.is (c.reclaim.ensures.refines c.args.buffer.now l f)
