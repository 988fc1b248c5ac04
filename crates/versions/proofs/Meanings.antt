-- Laws of what a version store means.
use Rattle.std.proofs.Common.{◌≡◌, ℕ, ◌+◌, ◌<◌, ◌≤◌, true, false, cond, not, ◌&&◌, eqb, ltb, leb, List, [], ◌∷◌, Ok, Err, refl, ⊎_elim, arith}
use Rattle.std.specs.List.{AllByRecursion}
use mathlib.Core.Path.{fun_ext}
use Rattle.std.specs.Result.{is_ok}
use Rattle.std.proofs.lemmas.Grind.{common_steps}
use Rattle.std.proofs.lemmas.Bool.{lt-ltb, le-ltb, ltb-true, leb-false, lt-leb, le-leb, and_parts, cases_Bool}
use Rattle.std.proofs.ByRecursion.{All-weaker}
use Rattle.std.proofs.lemmas.List.Filters.{length-filter_both}
use Rattle.versions.specs.declared.fault.StoreFault.{StoreFault}
use Rattle.versions.specs.declared.fault.StoreFault.TheVariants.{Full}
use Rattle.stamped.specs.declared.TheConstants.{MAX_KEYS}
use Rattle.versions.specs.declared.store.TheConstants.{MAX_CELLS}
use Rattle.versions.specs.Stores.{Revision, Store, newest, pair_of, newest_answer, add_answer, added, with_version, outdated, survivors, falls, kept, pruned_count, pruned, sizes_check}
use Rattle.versions.proofs.Lists.{kept_by_same, kept_by_none, any_none, sum_add}

-- stores with the same keys, cells and versions are the same
pub store_same : {keys keys' cells cells' : ℕ} {f g : ℕ → List Revision} → keys ≡ keys' → cells ≡ cells' → ((k : ℕ) → f k ≡ g k) → ◌≡◌ {A = Store} (record { keys = keys; cells = cells; versions = f }) (record { keys = keys'; cells = cells'; versions = g })
store_same {f = f} {g = g} a b each = let c : f ≡ g = fun_ext each in rw (a, b, c) refl

-- what an accepted set-up shows of its sizes
pub set_up_limits : (keys cells : ℕ) → is_ok (sizes_check keys cells) ≡ true → record { few_keys : keys ≤ MAX_KEYS; few_cells : cells ≤ MAX_CELLS; both : eqb keys 0 ≡ eqb cells 0 }
set_up_limits keys cells fine = record {
  few_keys = grind (arith, common_steps);
  few_cells = grind (arith, common_steps);
  both = grind (arith, common_steps);
}

-- falling stamps

falls_front : (v : Revision) (vs : List Revision) → falls (v ∷ vs) ≡ true → (newest vs).stamp < v.stamp
falls_front v vs f = ltb-true (newest vs).stamp v.stamp (and_parts (ltb (newest vs).stamp v.stamp) (falls vs) f).0

falls_rest : (v : Revision) (vs : List Revision) → falls (v ∷ vs) ≡ true → falls vs ≡ true
falls_rest v vs f = (and_parts (ltb (newest vs).stamp v.stamp) (falls vs) f).1

pub falls_more : (v : Revision) (vs : List Revision) → (newest vs).stamp < v.stamp → falls vs ≡ true → falls (v ∷ vs) ≡ true
falls_more v vs low f = let l = lt-ltb (newest vs).stamp v.stamp low in rw l f

-- every version is older than one put in front of the newest
falls_below : (t : ℕ) (vs : List Revision) → (newest vs).stamp < t → falls vs ≡ true → AllByRecursion (λ u. u.stamp < t) vs
falls_below t [] low f = tt
falls_below t (v ∷ vs) low f =
    let front = falls_front v vs f in
    (low, falls_below t vs (omega (arith, front, low)) (falls_rest v vs f))

-- the outdated versions of a key are the tail behind the first one stamped below the horizon

abbrev pub cut : ℕ → List Revision → List Revision
cut h [] = []
cut h (v ∷ vs) = v ∷ cond (ltb v.stamp h) [] (cut h vs)

newest_stays : (h : ℕ) (v : Revision) (vs : List Revision) → falls (v ∷ vs) ≡ true → outdated h (v ∷ vs) v ≡ false
newest_stays h v vs f =
    let self = le-ltb v.stamp v.stamp (omega arith) in
    let older = falls_below v.stamp vs (falls_front v vs f) (falls_rest v vs f) in
    rw self (any_none (λ w. ltb v.stamp w.stamp && ltb w.stamp h) vs (All-weaker (λ u. u.stamp < v.stamp) (λ w. (ltb v.stamp w.stamp && ltb w.stamp h) ≡ false) (λ w l. let e = le-ltb v.stamp w.stamp (omega arith) in rw e refl) vs older))

pub survivors_cut : (h : ℕ) (vs : List Revision) → falls vs ≡ true → survivors h vs ≡ cut h vs
survivors_cut h [] f = refl
survivors_cut h (v ∷ vs) f =
    let stays = newest_stays h v vs f in
    let older = falls_below v.stamp vs (falls_front v vs f) (falls_rest v vs f) in
    ⊎_elim
    (λ (e : ltb v.stamp h ≡ true).
    let none = kept_by_none (λ u. not (outdated h (v ∷ vs) u)) vs
    (All-weaker (λ u. u.stamp < v.stamp) (λ u. not (outdated h (v ∷ vs) u) ≡ false) (λ u l. let a = lt-ltb u.stamp v.stamp l in rw (a, e) refl) vs older) in
    rw (stays, e, none) refl)
    (λ (e : ltb v.stamp h ≡ false).
    let same = kept_by_same (λ u. not (outdated h (v ∷ vs) u)) (λ u. not (outdated h vs u)) vs
    (All-weaker (λ u. u.stamp < v.stamp) (λ u. not (outdated h (v ∷ vs) u) ≡ not (outdated h vs u)) (λ u l. let a = lt-ltb u.stamp v.stamp l in rw (a, e) refl) vs older) in
    rw (stays, e, same, survivors_cut h vs (falls_rest v vs f)) refl)
    (cases_Bool (ltb v.stamp h))

newest_cut : (h : ℕ) (vs : List Revision) → newest (cut h vs) ≡ newest vs
newest_cut h [] = refl
newest_cut h (v ∷ vs) = refl

pub falls_cut : (h : ℕ) (vs : List Revision) → falls vs ≡ true → falls (cut h vs) ≡ true
falls_cut h [] f = refl
falls_cut h (v ∷ vs) f =
    let front = falls_front v vs f in
    let rest = falls_cut h vs (falls_rest v vs f) in
    ⊎_elim
    (λ (e : ltb v.stamp h ≡ true). rw e (falls_more v [] (omega (arith, front)) refl))
    (λ (e : ltb v.stamp h ≡ false). rw e (falls_more v (cut h vs) (rw (newest_cut h vs) front) rest))
    (cases_Bool (ltb v.stamp h))

-- what a prune removes and leaves is what there was
pub outdated_and_kept : (m : Store) (h : ℕ) → pruned_count m h + kept (pruned m h) ≡ kept m
outdated_and_kept m h =
    sum_add m.keys _ _ _ (λ k. length-filter_both (outdated h (m.versions k)) (λ v. not (outdated h (m.versions k) v)) (λ v. refl) (m.versions k))

-- what add answers and leaves

pub newest_ok : (m : Store) (k : ℕ) (p : ℕ × ℕ) → Ok p ≡ newest_answer m k → (k < m.keys) × (p ≡ pair_of (newest (m.versions k)))
newest_ok m k p h =
    ⊎_elim
    (λ (e : leb m.keys k ≡ true). let g = rw e at h in absurd (let z : ◌≡◌ {A = ℕ} 0 1 = cc in omega arith))
    (λ (e : leb m.keys k ≡ false). let g = rw e at h in (leb-false m.keys k e, cc))
    (cases_Bool (leb m.keys k))

module _ (m : Store) (k s : ℕ) (known : k < m.keys) where
  module _ (later : (newest (m.versions k)).stamp < s) where
    pub add_full : m.cells ≤ kept m → add_answer m k s ≡ Err (Full k)
    add_full full =
        let a = lt-leb m.keys k known in
        let b = lt-leb s (newest (m.versions k)).stamp later in
        let d = le-leb m.cells (kept m) full in
        rw (a, b, d) refl

    pub add_fine : kept m < m.cells → add_answer m k s ≡ Ok tt
    add_fine room =
        let a = lt-leb m.keys k known in
        let b = lt-leb s (newest (m.versions k)).stamp later in
        let d = lt-leb m.cells (kept m) room in
        rw (a, b, d) refl

pub added_refused : (m : Store) (k s v : ℕ) (f : StoreFault) → add_answer m k s ≡ Err f → m ≡ added m k s v
added_refused m k s v f e = rw e refl

pub added_done : (m : Store) (k s v : ℕ) → add_answer m k s ≡ Ok tt → with_version k s v m ≡ added m k s v
added_done m k s v e = rw e refl
