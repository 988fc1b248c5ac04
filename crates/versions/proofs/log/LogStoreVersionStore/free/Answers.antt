use Rattle.std.proofs.Common.{arith}
use Rattle.versions.proofs.Logs.{kept_all}
use Rattle.versions.proofs.log.LogStoreVersionStore.free.Goals as goal

pub returns : goal.returns
returns c =
    let s = c.args.self.now in
    let all = kept_all s.keys s.versions.records s.known in
    omega (arith, all)
