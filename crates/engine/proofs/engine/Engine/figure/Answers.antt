use Rattle.std.proofs.Common.{◌≡◌, rules, arith}
use Rattle.refusals.specs.Results.{result_map}
use Rattle.ledger.specs.declared.Figure.{Figure}
use Rattle.engine.proofs.Totals.{sum_steps, smallest_steps, non_zero_steps}
use Rattle.engine.proofs.engine.Engine.figure.Goals as goal

pub returns-in-Sum-clause-refines : goal.returns-in-Sum-clause-refines
returns-in-Sum-clause-refines g c b l f =
    let r : c.map.result ≡ result_map (λ x. Figure.Sum x.value) c.total.result = search rules in
    rw c.in-Sum.is (sum_steps c.args.handle c.args.first c.args.count c.map.result b c.total.result r (c.total.ensures.refines l f))

pub returns-in-Smallest-clause-refines : goal.returns-in-Smallest-clause-refines
returns-in-Smallest-clause-refines g c b l f =
    let r : c.map-in-Smallest.result ≡ result_map (λ x. Figure.Smallest x.least) c.total-in-Smallest.result = search rules in
    rw c.in-Smallest.is (smallest_steps c.args.handle c.args.first c.args.count c.map-in-Smallest.result b c.total-in-Smallest.result r (c.total-in-Smallest.ensures.refines l f))

pub returns-in-NonZero-clause-refines : goal.returns-in-NonZero-clause-refines
returns-in-NonZero-clause-refines g c b l f =
    let r : c.map-in-NonZero.result ≡ result_map (λ x. Figure.NonZero x.count) c.total-in-NonZero.result = search rules in
    rw c.in-NonZero.is (non_zero_steps c.args.handle c.args.first c.args.count c.map-in-NonZero.result b (omega (arith, c.ranges.count.fits)) c.total-in-NonZero.result r (c.total-in-NonZero.ensures.refines l f))
