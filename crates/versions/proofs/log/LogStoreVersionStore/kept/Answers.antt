use Rattle.std.proofs.Common.{length, sym, ap, ◌∙◌}
use Rattle.versions.proofs.Logs.{kept_all}
use Rattle.versions.proofs.log.LogStoreVersionStore.kept.Goals as goal

pub returns : goal.returns
returns c =
    let s = c.args.self.now in
    ap length c.as_slice.ensures ∙ sym (kept_all s.keys s.versions.records s.known)
