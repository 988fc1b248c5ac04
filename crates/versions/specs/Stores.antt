-- What a version store means, and what each call of it answers and leaves.
use Rattle.std.specs.Prelude.{◌≡◌, ℕ, zero, suc, ◌+◌, ◌-◌, ◌≤◌, Bool, true, if◌then◌else◌, not, ◌&&◌, ◌||◌, List, [], ◌∷◌, length, Ok, Err, filter, Result, ◌==◌, nat_eq, nat_le, nat_lt}
use Rattle.std.specs.List.{find, list_any}
use Rattle.std.specs.Option.{unwrap_or}
use Rattle.std.specs.Result.{is_ok, result_and}
use Rattle.refusals.specs.Results.{result_map}
use Rattle.stamped.specs.declared.TheConstants.{MAX_KEYS}
use Rattle.stamped.specs.Sizes.{keys_outside}
use Rattle.versions.specs.declared.fault.StoreFault.{StoreFault}
use Rattle.versions.specs.declared.fault.StoreFault.TheVariants.{KeyOutside, Full, StaleStamp}
use Rattle.versions.specs.declared.fault.SizeFault.{SizeFault}
use Rattle.versions.specs.declared.fault.SizeFault.TheVariants.{Keys, Cells}
use Rattle.versions.specs.declared.store.TheConstants.{MAX_CELLS}

-- a value of a key, and the tick at which it was committed
pub record Revision : Type 0 where
  pub stamp : ℕ
  pub value : ℕ

pub record Store : Type 0 where
  pub keys : ℕ
  pub cells : ℕ
  -- the versions of each key, newest first
  pub versions : ℕ → List Revision

-- nothing was added yet
abbrev pub empty : ℕ → ℕ → Store
empty keys cells = record { keys = keys; cells = cells; versions = λ k. [] }

-- what each key has before any version was added
abbrev pub base : Revision
base = record { stamp = 0; value = 0 }

-- the newest version whose stamp passes the test, else the base version
abbrev pub first_by : (ℕ → Bool) → List Revision → Revision
first_by test vs = unwrap_or (find (λ v. test v.stamp) vs) base

abbrev pub newest : List Revision → Revision
newest vs = first_by (λ s. true) vs

-- the newest version stamped below a tick
abbrev pub as_of : ℕ → List Revision → Revision
as_of tick vs = first_by (λ s. nat_lt s tick) vs

-- a version is outdated under a horizon if a newer one of its key has a stamp below the horizon
abbrev pub outdated : ℕ → List Revision → Revision → Bool
outdated horizon vs v = list_any (λ w. nat_lt v.stamp w.stamp && nat_lt w.stamp horizon) vs

-- f of 0, 1, .. n - 1, added up
abbrev pub sum_below : ℕ → (ℕ → ℕ) → ℕ
sum_below zero f = 0
sum_below (suc n) f = sum_below n f + f n

-- the versions present
abbrev pub kept : Store → ℕ
kept m = sum_below m.keys (λ k. length (m.versions k))

abbrev pub free : Store → ℕ
free m = m.cells - kept m

-- a version as a call answers it
abbrev pub pair_of : Revision → ℕ × ℕ
pair_of v = (v.stamp, v.value)

-- a store has the keys below so many
abbrev pub key_check : ℕ → ℕ → Result (Unit {0}) StoreFault
key_check keys k = if nat_le keys k then Err (KeyOutside k) else Ok tt

abbrev pub newest_answer : Store → ℕ → Result (ℕ × ℕ) StoreFault
newest_answer m k = result_map (λ _. pair_of (newest (m.versions k))) (key_check m.keys k)

abbrev pub as_of_answer : Store → ℕ → ℕ → Result (ℕ × ℕ) StoreFault
as_of_answer m k tick = result_map (λ _. pair_of (as_of tick (m.versions k))) (key_check m.keys k)

abbrev pub add_answer : Store → ℕ → ℕ → Result (Unit {0}) StoreFault
add_answer m k s =
    result_and (key_check m.keys k)
    (if nat_le s (newest (m.versions k)).stamp then Err (StaleStamp k)
    else if nat_le m.cells (kept m) then Err (Full k)
    else Ok tt)

-- a version more at the front of one key's list
abbrev pub with_version : ℕ → ℕ → ℕ → Store → Store
with_version k s v m =
    let new : Revision = record { stamp = s; value = v } in
    record m { versions = λ j. if k == j then (new ∷ m.versions j) else m.versions j }

-- the store after an add; a refused one changes nothing
abbrev pub added : Store → ℕ → ℕ → ℕ → Store
added m k s v = if is_ok (add_answer m k s) then with_version k s v m else m

abbrev pub survivors : ℕ → List Revision → List Revision
survivors horizon vs = filter (λ v. not (outdated horizon vs v)) vs

-- the store after a prune: of each key, the versions that are not outdated
abbrev pub pruned : Store → ℕ → Store
pruned m horizon = record m { versions = λ k. survivors horizon (m.versions k) }

abbrev pub pruned_count : Store → ℕ → ℕ
pruned_count m horizon =
    sum_below m.keys (λ k. length (filter (outdated horizon (m.versions k)) (m.versions k)))

-- stamps fall strictly from the newest to the oldest, and the oldest is above 0
abbrev pub falls : List Revision → Bool
falls [] = true
falls (v ∷ vs) = nat_lt (newest vs).stamp v.stamp && falls vs

-- those of each key do
abbrev pub AreFalling : (ℕ → List Revision) → Type 0
AreFalling versions = (k : ℕ) → falls (versions k) ≡ true

-- what holds of every store
pub record IsLawfulStore (m : Store) : Type 0 where
  pub falling : AreFalling m.versions
  pub inside : (k : ℕ) → m.keys ≤ k → m.versions k ≡ []
  pub within_cells : kept m ≤ m.cells
  pub few_keys : m.keys ≤ MAX_KEYS
  pub few_cells : m.cells ≤ MAX_CELLS
  -- a store from a refused set-up has no keys and no cells; any other has both
  pub both : nat_eq m.keys 0 ≡ (m.cells == 0)

-- set-up: the keys, then the cells
abbrev pub sizes_check : ℕ → ℕ → Result (Unit {0}) SizeFault
sizes_check keys cells =
    if keys_outside keys then Err (Keys keys)
    else if cells == 0 || nat_lt MAX_CELLS cells then Err (Cells cells)
    else Ok tt

-- a store just made: empty, and with no keys and no cells where its check refuses
abbrev pub new_store : {E : Type 0} → Result (Unit {0}) E → ℕ → ℕ → Store
new_store answer keys cells = if is_ok answer then empty keys cells else empty 0 0
