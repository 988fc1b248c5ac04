-- Validation: what the validator names over a read list is the ledger's clash.
use Rattle.std.proofs.Common.{◌≡◌, ℕ, ◌+◌, ◌<◌, ◌≤◌, Bool, true, false, cond, ltb, List, [], ◌∷◌, Some, None, Option, sym, refl, ap, ◌∙◌, arith}
use Rattle.std.specs.List.{AllByRecursion, find, range_with_len}
use Rattle.std.specs.Option.{option_map, option_or}
use Rattle.std.proofs.ByRecursion.{All-append}
use Rattle.std.proofs.lemmas.List.Folds.{find-append}
use Rattle.std.proofs.lemmas.Bool.{ltb-true, le-ltb}
use Rattle.ledger.specs.declared.Range.{Range}
use Rattle.ledger.specs.Ledger.{Ledger}
use Rattle.ledger.specs.Calls.{StaleRead, granule_stamp, stale_read_among, read_keys}
use Rattle.ledger.proofs.Presence.{stale_read_at}
use Rattle.versions.specs.Stores.{Store}
use Rattle.validation.specs.declared.validator.Clash.{Clash}
use Rattle.validation.specs.Stamps.{Stamps, stamp_at, clash_at, first_clash}
use Rattle.engine.specs.Fits.{Holds}
use Rattle.engine.specs.Endings.{first_named}
use Rattle.engine.proofs.Fills.{keys_below}

-- a clash as the ledger has it
abbrev pub in_ledger : Clash → StaleRead
in_ledger c = stale_read_at c.key c.stamp

map_or : {X Y : Type 0} (f : X → Y) (o p : Option X) → option_or (option_map f o) (option_map f p) ≡ option_map f (option_or o p)
map_or f None p = refl
map_or f (Some x) p = refl

module _ (l : Ledger) (s : Store) (v : Stamps) (has : Holds l s v) (start : ℕ) (untrimmed : l.trimmed_at ≤ start) where
  abbrev newer : ℕ → Bool
  newer k = ltb start (stamp_at v k)

  -- each range is in the table, so the validator names the first clash of all their keys
  named_keys : (rs : List Range) → AllByRecursion (λ r. (0 < r.count) × (r.first + r.count ≤ s.keys)) rs → first_named v start rs ≡ option_map (clash_at v) (find newer (read_keys rs))
  named_keys [] a = refl
  named_keys (r ∷ rs) a =
      let inside = le-ltb v.keys (r.first + r.count) (omega (arith, has.same_keys, a.0.1)) in
      rw inside (ap (option_or (first_clash v start r.first r.count)) (named_keys rs a.1) ∙ map_or (clash_at v) (find newer (range_with_len r.first r.count)) (find newer (read_keys rs)) ∙ ap (option_map (clash_at v)) (sym (find-append newer (range_with_len r.first r.count) (read_keys rs))))

  -- a stamp that a trim has removed is no clash
  same_stale_read : (ks : List ℕ) → AllByRecursion (λ k. k < s.keys) ks → option_map in_ledger (option_map (clash_at v) (find newer ks)) ≡ stale_read_among v.granule l.versions start ks
  same_stale_read [] a = refl
  same_stale_read (k ∷ ks) a = go (stamp_at v k) (granule_stamp v.granule k l.versions) (ltb (granule_stamp v.granule k l.versions) l.trimmed_at) refl refl refl (has.stamps k a.0) (same_stale_read ks a.1)
    where
      hit : (b : Bool) (x : ℕ) → stamp_at v k ≡ x → granule_stamp v.granule k l.versions ≡ x → option_map in_ledger (option_map (clash_at v) (find newer ks)) ≡ stale_read_among v.granule l.versions start ks → option_map in_ledger (option_map (clash_at v) (cond b (Some k) (find newer ks))) ≡ option_map (λ (j : ℕ). stale_read_at j (granule_stamp v.granule j l.versions)) (cond b (Some k) (find (λ j. ltb start (granule_stamp v.granule j l.versions)) ks))
      hit true x d e ih = ap (λ y. Some (stale_read_at k y)) (d ∙ sym e)
      hit false x d e ih = ih

      go : (x y : ℕ) (b : Bool) → stamp_at v k ≡ x → granule_stamp v.granule k l.versions ≡ y → ltb y l.trimmed_at ≡ b → x ≡ cond b 0 y → option_map in_ledger (option_map (clash_at v) (find newer ks)) ≡ stale_read_among v.granule l.versions start ks → option_map in_ledger (option_map (clash_at v) (cond (ltb start x) (Some k) (find newer ks))) ≡ option_map (λ (j : ℕ). stale_read_at j (granule_stamp v.granule j l.versions)) (cond (ltb start y) (Some k) (find (λ j. ltb start (granule_stamp v.granule j l.versions)) ks))
      go x y false d e f same ih = rw same (hit (ltb start y) y (d ∙ same) e ih)
      go x y true d e f same ih =
          let below = ltb-true y l.trimmed_at f in
          let none = le-ltb start x (omega arith) in
          let none' = le-ltb start y (omega arith) in
          rw (none, none') ih

  keys_inside : (rs : List Range) → AllByRecursion (λ r. (0 < r.count) × (r.first + r.count ≤ s.keys)) rs → AllByRecursion (λ k. k < s.keys) (read_keys rs)
  keys_inside [] a = tt
  keys_inside (r ∷ rs) a = All-append (λ k. k < s.keys) (range_with_len r.first r.count) (read_keys rs) (keys_below r.first r.count s.keys a.0.1) (keys_inside rs a.1)

  pub stale_read_named : (rs : List Range) → AllByRecursion (λ r. (0 < r.count) × (r.first + r.count ≤ s.keys)) rs → option_map in_ledger (first_named v start rs) ≡ stale_read_among v.granule l.versions start (read_keys rs)
  stale_read_named rs a = ap (option_map in_ledger) (named_keys rs a) ∙ same_stale_read (read_keys rs) (keys_inside rs a)
