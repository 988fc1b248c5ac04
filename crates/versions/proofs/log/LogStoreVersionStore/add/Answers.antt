use Rattle.std.proofs.Common.{rules, ◌≡◌, cond, Ok, Err, ap, arith}
use Rattle.std.specs.Result.{is_ok}
use Rattle.stamped.specs.Packing.{capacity}
use Rattle.versions.specs.declared.fault.StoreFault.TheVariants.{Full}
use Rattle.versions.specs.declared.store.Version.{Version}
use Rattle.versions.specs.Log.{store_of_log}
use Rattle.versions.proofs.Meanings.{newest_ok}
use Rattle.versions.proofs.Logs.{push_lawful, push_told}
use Rattle.versions.proofs.log.LogStoreVersionStore.add.Goals as goal

pub invariant_of-self : goal.invariant_of-self
invariant_of-self c =
    let s = c.args.self.now in
    let v : Version = record { key = c.args.key; stamp = c.args.stamp; value = c.args.value } in
    let ok = newest_ok (store_of_log s.keys (capacity s.versions) s.versions.records) c.args.key _ c.in_ok-newest.ensures in
    push_lawful s.keys s.versions c.push.new.self v s.known s.lawful ok.0 (omega (arith, ap (λ p. p.0) ok.1)) c.push.result c.push.ensures.fits.0 c.push.ensures.pushed c.push.ensures.full

pub returns : goal.returns
returns c =
    let s = c.args.self.now in
    let v : Version = record { key = c.args.key; stamp = c.args.stamp; value = c.args.value } in
    let ok = newest_ok (store_of_log s.keys (capacity s.versions) s.versions.records) c.args.key _ c.in_ok-newest.ensures in
    let is : c.map_err.result ≡ cond (is_ok c.push.result) (Ok tt) (Err (Full c.args.key)) = search rules in
    let told = push_told s.keys s.versions c.push.new.self v s.known s.lawful ok.0 (omega (arith, ap (λ p. p.0) ok.1)) c.push.result c.map_err.result c.push.ensures.fits c.push.ensures.pushed c.push.ensures.full is in
    record { answer = told.0; after = told.1 }
