use Rattle.std.proofs.Common.{◌≤◌, length, eqb, sym, ap, ◌∙◌, arith}
use Rattle.stamped.specs.Packing.{Packing, capacity, closed_packing}
use Rattle.stamped.proofs.Closings.{length-closed, capacity-closed}
use Rattle.versions.specs.declared.store.TheConstants.{MAX_CELLS}
use Rattle.versions.specs.declared.store.Version.{Version}
use Rattle.versions.specs.Log.{outdated_by}
use Rattle.versions.proofs.Logs.{log_lawful}
use Rattle.versions.proofs.Closings.{closed_known, closed_falling, closed_pruned, closed_count}
use Rattle.versions.proofs.log.LogStoreVersionStore.prune.Goals as goal

pub invariant_of-self : goal.invariant_of-self
invariant_of-self c =
    let s = c.args.self.now in
    let drops = outdated_by c.args.horizon in
    let n = closed_packing drops s.versions in
    let places = capacity-closed drops s.versions in
    let known = closed_known c.args.horizon s.versions.records s.lawful.falling s.keys s.known in
    let falling = closed_falling c.args.horizon s.versions.records s.lawful.falling in
    let few : capacity n ≤ MAX_CELLS = rw places s.lawful.few_cells in
    rw c.close_gaps.ensures (record { known = known; lawful = log_lawful s.keys n s.lawful.few_keys few (s.lawful.both ∙ ap (λ r. eqb r 0) (sym places)) known falling })

pub overflow_sub-result : goal.overflow_sub-result
overflow_sub-result c =
    let s = c.args.self.now in
    let few = length-closed (outdated_by c.args.horizon) s.versions.records in
    omega (arith, few, ap length c.as_slice-left.ensures, ap length c.as_slice-used.ensures, ap (λ (p : Packing Version). length p.records) c.close_gaps.ensures)

pub returns-clause-count : goal.returns-clause-count
returns-clause-count c =
    let s = c.args.self.now in
    rw (c.as_slice-left.ensures, c.as_slice-used.ensures, c.close_gaps.ensures) (closed_count c.args.horizon s.versions.records s.lawful.falling s.keys s.known (capacity s.versions))

pub returns-clause-after : goal.returns-clause-after
returns-clause-after c =
    let s = c.args.self.now in
    rw (c.close_gaps.ensures, capacity-closed (outdated_by c.args.horizon) s.versions) (closed_pruned c.args.horizon s.versions.records s.lawful.falling s.keys (capacity s.versions))
