-- What a prune and a trim leave is what the ledger's reclaim leaves, and the store counts what the ledger counts.
use Rattle.std.proofs.Common.{◌≡◌, ℕ, ◌+◌, ◌<◌, ◌≤◌, max, Bool, true, false, cond, not, ◌&&◌, ◌||◌, eqb, ltb, List, [], ◌∷◌, map, length, filter, sym, refl, ap, ◌∙◌, subst, arith}
use Rattle.std.specs.List.{AllByRecursion}
use Rattle.std.proofs.ByRecursion.{All-weaker}
use Rattle.std.proofs.lemmas.Bool.{eqb-true, eqb-false, eq-eqb, ne_eqb, ltb-true, ltb-false, lt-ltb, le-ltb, and_left, and_right, both_ways}
use Rattle.versions.specs.Stores.{Store, Revision, kept, outdated, survivors, pruned, pruned_count, sum_below}
use Rattle.versions.proofs.Lists.{any_none, sum_none, sum_same, sum_one}
use Rattle.versions.proofs.Meanings.{outdated_and_kept}
use Rattle.validation.specs.Stamps.{Stamps, trimmed}
use Rattle.ledger.specs.Ledger.{Version, Ledger, outlook, trim_tick, is_hidden_by, unseen, present_count, dead_count, shortage}
use Rattle.ledger.specs.Calls.{granule_stamp, reclaimed, shortage_in}
use Rattle.ledger.specs.Orderly.{AreStrictPerKey, IsOrderly}
use Rattle.ledger.proofs.Presence.{granule_same}
use Rattle.ledger.proofs.Deaths.{clear, bare_reclaimed, live_and_dead, present_reclaimed}
use Rattle.engine.specs.Fits.{as_revision, revisions_of, kept_stamp, Holds}

-- Which versions are dead

none_later : (h : ℕ) (v : Version) (vs : List Version) → AllByRecursion (λ w. w.key ≡ v.key → w.stamp ≤ v.stamp) vs → unseen h vs v ≡ false
none_later h v [] a = refl
none_later h v (w ∷ vs) a = rw (one (eqb w.key v.key) refl) (none_later h v vs a.1)
  where
    one : (b : Bool) → eqb w.key v.key ≡ b → (b && (ltb v.stamp w.stamp && ltb w.stamp h)) ≡ false
    one true q = and_left _ _ (le-ltb v.stamp w.stamp (a.0 (eqb-true _ _ q)))
    one false q = refl

pub revisions_below : (k c : ℕ) (vs : List Version) → AllByRecursion (λ w. w.key ≡ k → w.stamp ≤ c) vs → AllByRecursion (λ p. p.stamp ≤ c) (revisions_of k vs)
revisions_below k c [] a = tt
revisions_below k c (w ∷ vs) a = go (eqb w.key k) refl w.present (revisions_below k c vs a.1)
  where
    go : (b : Bool) → eqb w.key k ≡ b → (p : Bool) → AllByRecursion (λ p. p.stamp ≤ c) (revisions_of k vs) → AllByRecursion (λ p. p.stamp ≤ c) (cond (b && p) (as_revision w ∷ revisions_of k vs) (revisions_of k vs))
    go true q true ih = (a.0 (eqb-true _ _ q), ih)
    go true q false ih = ih
    go false q p ih = ih

revisions_none_later : (h k : ℕ) (r : Revision) (vs : List Version) → AllByRecursion (λ w. w.key ≡ k → w.stamp ≤ r.stamp) vs → outdated h (revisions_of k vs) r ≡ false
revisions_none_later h k r vs a =
    any_none (λ w. ltb r.stamp w.stamp && ltb w.stamp h) (revisions_of k vs) (All-weaker _ (λ w. (ltb r.stamp w.stamp && ltb w.stamp h) ≡ false) (λ w le. and_left _ _ (le-ltb r.stamp w.stamp le)) (revisions_of k vs) (revisions_below k r.stamp vs a))

-- each removed version of the key is dead
abbrev RemovedAreDead : ℕ → ℕ → List Version → List Version → Type 0
RemovedAreDead k h all vs = AllByRecursion (λ v. v.key ≡ k → v.present ≡ false → unseen h all v ≡ true) vs

-- the version is dead in the ledger as in a key's list
abbrev IsDeadAlike : ℕ → List Version → List Revision → Version → Type 0
IsDeadAlike h vs ps v = unseen h vs v ≡ outdated h ps (as_revision v)

-- a version of the key that is dead at all is dead by one that is present: by the newest below h
same_dead : (k h : ℕ) (vs : List Version) → AreStrictPerKey vs → RemovedAreDead k h vs vs → (v : Version) → v.key ≡ k → IsDeadAlike h vs (revisions_of k vs) v
same_dead k h [] strict removed v e = refl
same_dead k h (x ∷ xs) strict removed v e = go (eqb x.key k) (ltb x.stamp h) x.present refl refl refl (λ r. same_dead k h xs strict.1 r v e)
  where
    -- where x hides nothing of the key
    skip : ((u : Version) → u.key ≡ k → is_hidden_by h u x ≡ false) → (RemovedAreDead k h xs xs → IsDeadAlike h xs (revisions_of k xs) v) → IsDeadAlike h (x ∷ xs) (revisions_of k xs) v
    skip idle later =
        let same : (u : Version) → u.key ≡ k → unseen h (x ∷ xs) u ≡ unseen h xs u = λ u q. ap (λ b. b || unseen h xs u) (idle u q) in
        same v e ∙ later (All-weaker _ _ (λ u r q p. sym (same u q) ∙ r q p) xs removed.1)

    -- x is the newest of the key below h
    alive : x.key ≡ k → x.present ≡ false → ⊥
    alive q p =
        let self : is_hidden_by h x x ≡ false = and_right (eqb x.key x.key) (ltb x.stamp x.stamp && ltb x.stamp h) (and_left (ltb x.stamp x.stamp) (ltb x.stamp h) (le-ltb x.stamp x.stamp (omega arith))) in
        let rest = none_later h x xs (All-weaker _ _ (λ w lt same. let l = lt same in omega arith) xs strict.0) in
        both_ways (unseen h (x ∷ xs) x) (rw self rest) (removed.0 q p)

    first : (b : Bool) → ltb v.stamp x.stamp ≡ b → x.key ≡ k → ltb x.stamp h ≡ true → IsDeadAlike h (x ∷ xs) (as_revision x ∷ revisions_of k xs) v
    first true d q below = rw (eq-eqb x.key v.key (q ∙ sym e), d, below)
    first false d q below =
        let le = ltb-false _ _ d in
        let older : AllByRecursion (λ w. w.key ≡ k → w.stamp ≤ v.stamp) xs = All-weaker _ _ (λ w lt same. let l = lt (same ∙ sym q) in omega arith) xs strict.0 in
        rw (eq-eqb x.key v.key (q ∙ sym e), d, none_later h v xs (All-weaker _ _ (λ w l same. l (same ∙ e)) xs older), revisions_none_later h k (as_revision v) xs older)

    go : (a b p : Bool) → eqb x.key k ≡ a → ltb x.stamp h ≡ b → x.present ≡ p → (RemovedAreDead k h xs xs → IsDeadAlike h xs (revisions_of k xs) v) → IsDeadAlike h (x ∷ xs) (cond (a && p) (as_revision x ∷ revisions_of k xs) (revisions_of k xs)) v
    go false b p q below is later = skip (λ u same. and_left (eqb x.key u.key) (ltb u.stamp x.stamp && ltb x.stamp h) (ne_eqb x.key u.key (λ z. eqb-false x.key k q (z ∙ same)))) later
    go true true true q below is later = first (ltb v.stamp x.stamp) refl (eqb-true x.key k q) below
    go true true false q below is later = absurd (alive (eqb-true x.key k q) is)
    go true false true q below is later =
        let gone : (s : ℕ) → (ltb s x.stamp && ltb x.stamp h) ≡ false = λ s. and_right (ltb s x.stamp) (ltb x.stamp h) below in
        skip (λ u same. and_right (eqb x.key u.key) (ltb u.stamp x.stamp && ltb x.stamp h) (gone u.stamp)) later ∙ sym (ap (λ b. b || outdated h (revisions_of k xs) (as_revision v)) (gone v.stamp))
    go true false false q below is later = skip (λ u same. and_right (eqb x.key u.key) (ltb u.stamp x.stamp && ltb x.stamp h) (and_right (ltb u.stamp x.stamp) (ltb x.stamp h) below)) later

-- what a prune leaves of a key's list is the list of what a reclaim leaves
revisions_left : (k h : ℕ) (all : List Version) (ps : List Revision) (vs : List Version) → AllByRecursion (λ v. v.key ≡ k → IsDeadAlike h all ps v) vs → filter (λ p. not (outdated h ps p)) (revisions_of k vs) ≡ revisions_of k (map (clear h all) vs)
revisions_left k h all ps [] a = refl
revisions_left k h all ps (v ∷ vs) a = go (eqb v.key k) v.present refl (revisions_left k h all ps vs a.1)
  where
    go : (b p : Bool) → eqb v.key k ≡ b → filter (λ p. not (outdated h ps p)) (revisions_of k vs) ≡ revisions_of k (map (clear h all) vs) → filter (λ p. not (outdated h ps p)) (cond (b && p) (as_revision v ∷ revisions_of k vs) (revisions_of k vs)) ≡ cond (b && (p && not (unseen h all v))) (as_revision v ∷ revisions_of k (map (clear h all) vs)) (revisions_of k (map (clear h all) vs))
    go true true q ih = rw (a.0 (eqb-true _ _ q), ih)
    go true false q ih = ih
    go false p q ih = ih

revisions_reclaimed : (k h : ℕ) (vs : List Version) → AreStrictPerKey vs → AllByRecursion (λ v. v.present ≡ false → unseen h vs v ≡ true) vs → survivors h (revisions_of k vs) ≡ revisions_of k (map (clear h vs) vs)
revisions_reclaimed k h vs strict removed =
    revisions_left k h vs (revisions_of k vs) vs (each vs (same_dead k h vs strict (All-weaker _ _ (λ v r e. r) vs removed)))
  where
    each : (us : List Version) → ((v : Version) → v.key ≡ k → IsDeadAlike h vs (revisions_of k vs) v) → AllByRecursion (λ v. v.key ≡ k → IsDeadAlike h vs (revisions_of k vs) v) us
    each [] f = tt
    each (u ∷ us) f = (f u, each us f)

-- Counts

-- the lists of all keys together are as long as there are versions present
revisions_count : (n : ℕ) (vs : List Version) → AllByRecursion (λ v. v.key < n) vs → sum_below n (λ k. length (revisions_of k vs)) ≡ length (filter (λ v. v.present) vs)
revisions_count n [] a = sum_none n
revisions_count n (v ∷ vs) a = go v.present (revisions_count n vs a.1)
  where
    longer : (k : ℕ) (b : Bool) → length (cond (b && true) (as_revision v ∷ revisions_of k vs) (revisions_of k vs)) ≡ length (revisions_of k vs) + cond b 1 0
    longer k true = omega arith
    longer k false = omega arith

    same : (k : ℕ) (b : Bool) → length (cond (b && false) (as_revision v ∷ revisions_of k vs) (revisions_of k vs)) ≡ length (revisions_of k vs)
    same k true = refl
    same k false = refl

    go : (p : Bool) → sum_below n (λ k. length (revisions_of k vs)) ≡ length (filter (λ u. u.present) vs) → sum_below n (λ k. length (cond (eqb v.key k && p) (as_revision v ∷ revisions_of k vs) (revisions_of k vs))) ≡ length (cond p (v ∷ filter (λ u. u.present) vs) (filter (λ u. u.present) vs))
    go true ih = let more = sum_one n v.key (λ k. length (revisions_of k vs)) (λ k. length (cond (eqb v.key k && true) (as_revision v ∷ revisions_of k vs) (revisions_of k vs))) a.0 (λ k. longer k (eqb v.key k)) in omega (arith, more, ih)
    go false ih = sum_same n _ _ (λ k lt. same k (eqb v.key k)) ∙ ih

module _ (l : Ledger) (s : Store) (v : Stamps) (has : Holds l s v) (keys : AllByRecursion (λ u. u.key < s.keys) l.versions) where
  pub kept_is : kept s ≡ present_count l
  kept_is = sum_same s.keys (λ k. length (s.versions k)) (λ k. length (revisions_of k l.versions)) (λ k lt. ap length (has.revisions k lt)) ∙ revisions_count s.keys l.versions keys

  pub shortage_is : s.cells ≡ l.limits.cells → (n : ℕ) → shortage s.cells (kept s) n ≡ shortage_in l n
  shortage_is e n = let k = kept_is in rw (e, k)

-- Trims

trims_join : (s t u : ℕ) → kept_stamp u (kept_stamp t s) ≡ kept_stamp (max t u) s
trims_join s t u = go (ltb s t) (ltb s u) refl refl
  where
    nothing : (b : Bool) → ◌≡◌ {A = ℕ} (cond b 0 0) 0
    nothing true = refl
    nothing false = refl

    go : (a b : Bool) → ltb s t ≡ a → ltb s u ≡ b → kept_stamp u (cond a 0 s) ≡ kept_stamp (max t u) s
    go true b p q =
        let lt = ltb-true s t p in
        let e = lt-ltb s (max t u) (omega arith) in
        rw e (nothing (ltb 0 u))
    go false true p q =
        let lt = ltb-true s u q in
        let e = lt-ltb s (max t u) (omega arith) in
        rw (q, e)
    go false false p q =
        let le = ltb-false s u q in
        let ge = ltb-false s t p in
        let e = le-ltb s (max t u) (omega arith) in
        rw (q, e)

-- The whole

module _ (l : Ledger) (s : Store) (v : Stamps) (order : IsOrderly l) (has : Holds l s v) where
  pub holds_reclaimed : Holds (reclaimed l) (pruned s (outlook l)) (trimmed v (trim_tick l))
  holds_reclaimed = record {
    same_keys = has.same_keys;
    revisions = λ k lt. ap (survivors (outlook l)) (has.revisions k lt) ∙ revisions_reclaimed k (outlook l) l.versions order.dated.strict order.safe.removed;
    stamps = λ k lt. ap (kept_stamp (trim_tick l)) (has.stamps k lt) ∙ trims_join (granule_stamp v.granule k l.versions) l.trimmed_at (trim_tick l) ∙ ap (kept_stamp (max l.trimmed_at (trim_tick l))) (sym (granule_same (reclaimed l).versions l.versions (bare_reclaimed l) v.granule k));
  }

  -- as many versions are dead
  pub dead_is : s.keys ≡ l.limits.keys → pruned_count s (outlook l) ≡ dead_count l
  dead_is e =
      let keys : AllByRecursion (λ u. u.key < s.keys) l.versions = subst (λ n. AllByRecursion (λ u. u.key < n) l.versions) (sym e) order.dated.keys in
      let before = kept_is l s v has keys in
      let after = kept_is (reclaimed l) (pruned s (outlook l)) (trimmed v (trim_tick l)) holds_reclaimed (keys_left s.keys l.versions keys) in
      omega (arith, before, after, outdated_and_kept s (outlook l), live_and_dead l order.safe.removed, present_reclaimed l order.safe.removed)
    where
      keys_left : (n : ℕ) (us : List Version) → AllByRecursion (λ u. u.key < n) us → AllByRecursion (λ u. u.key < n) (map (clear (outlook l) l.versions) us)
      keys_left n [] a = tt
      keys_left n (u ∷ us) a = (a.0, keys_left n us a.1)
