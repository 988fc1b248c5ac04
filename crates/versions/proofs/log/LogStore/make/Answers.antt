use Rattle.std.proofs.Common.{length, sym, ap, ◌∙◌}
use Rattle.std.specs.Result.{is_ok}
use Rattle.versions.proofs.Logs.{log_made}
use Rattle.versions.proofs.log.LogStore.make.Goals as goal

pub invariant_of-result-2 : goal.invariant_of-result-2
invariant_of-result-2 c =
    let m = c.new-2.ensures.none in
    let long = ap length c.new-2.ensures.rest in
    let fine = ap is_ok c.check.ensures in
    log_made c.args.keys c.new-2.result m (rw long (sym fine ∙ c.if-is_err.ensures.negation))
