use Rattle.std.proofs.Common.{rules}
use Rattle.stamped.specs.Lookups.{matches}
use Rattle.stamped.proofs.Lookups.{IsLast, last_is}
use Rattle.stamped.proofs.lookup.find_last.Goals as goal

pub returns : goal.returns
returns g c =
    let of = λ (x : g.row.T.Denot). matches c.args.key c.args.moment (g.T.Stamped.key_of x) (g.T.Stamped.stamp_of x) in
    let last : IsLast of c.args.records.now c.rposition.result = search rules in
    last_is of c.args.records.now c.rposition.result last
