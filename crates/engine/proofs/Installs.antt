-- A commit: with its writes added and noted, store and validator hold the ledger with its versions.
use Rattle.std.proofs.Common.{◌≡◌, ℕ, ◌+◌, ◌<◌, ◌≤◌, max, Bool, true, false, cond, ◌&&◌, ◌||◌, eqb, ltb, List, [], ◌∷◌, ◌++◌, length, ◌-◌, Some, None, Option, sym, refl, ap, ◌∙◌, subst, arith}
use Rattle.std.specs.List.{AllByRecursion, find}
use Rattle.std.specs.Option.{option_map}
use Rattle.std.proofs.ByRecursion.{All-weaker}
use Rattle.std.proofs.lemmas.Bool.{eqb-true, ne_eqb, le-ltb, lt-leb, cond_both}
use Rattle.ledger.specs.declared.Write.{Write}
use Rattle.ledger.specs.Ledger.{Version, Transaction, Ledger, present_count, own_write}
use Rattle.ledger.specs.Calls.{granule_stamp, stamped, installed}
use Rattle.ledger.specs.Orderly.{AreDistinct, IsWellFormed, IsOrderly}
use Rattle.ledger.proofs.Restarts.{list_writes_into, granule_stamped}
use Rattle.ledger.proofs.Actives.{all_two}
use Rattle.ledger.proofs.Verdicts.{granule_le}
use Rattle.versions.specs.Stores.{Store, Revision, newest, kept, with_version}
use Rattle.versions.proofs.Lists.{sum_one}
use Rattle.versions.proofs.Meanings.{add_fine, added_done}
use Rattle.validation.specs.Stamps.{Stamps, stamp_at, noted, with_stamps}
use Rattle.engine.specs.Fits.{revisions_of, kept_stamp, Holds}
use Rattle.engine.specs.Endings.{all_added, all_noted}
use Rattle.engine.proofs.Prunes.{revisions_below, kept_is}

-- The store

-- a key's list with its own write of a commit in front
abbrev with_own : Option ℕ → ℕ → List Revision → List Revision
with_own None c ps = ps
with_own (Some x) c ps = record { stamp = c; value = x } ∷ ps

own_none : (k : ℕ) (ws : List Write) → AllByRecursion (λ u. u.key ≡ k → ⊥) ws → own_write k ws ≡ None
own_none k [] a = refl
own_none k (w ∷ ws) a = rw (ne_eqb w.key k a.0) (own_none k ws a.1)

pub record AreAdded (c : ℕ) (ws : List Write) (s t : Store) : Type 0 where
  pub keys : t.keys ≡ s.keys
  pub cells : t.cells ≡ s.cells
  pub versions : (k : ℕ) → t.versions k ≡ with_own (own_write k ws) c (s.versions k)

kept_put : (s : Store) (k c x : ℕ) → k < s.keys → kept (with_version k c x s) ≡ kept s + 1
kept_put s k c x lt = sum_one s.keys k (λ j. length (s.versions j)) (λ j. length ((with_version k c x s).versions j)) lt (λ j. longer j (eqb k j))
  where
    longer : (j : ℕ) (b : Bool) → length (cond b (record { stamp = c; value = x } ∷ s.versions j) (s.versions j)) ≡ length (s.versions j) + cond b 1 0
    longer j true = omega arith
    longer j false = omega arith

added_all : (c : ℕ) (ws : List Write) (s : Store) → AreDistinct ws → AllByRecursion (λ w. w.key < s.keys) ws → AllByRecursion (λ w. (newest (s.versions w.key)).stamp < c) ws → kept s + length ws ≤ s.cells → AreAdded c ws s (all_added c s ws)
added_all c [] s d k n r = record { keys = refl; cells = refl; versions = λ k. refl }
added_all c (w ∷ ws) s d k n r =
    let p = with_version w.key c w.value s in
    let fine = added_done s w.key c w.value (add_fine s w.key c k.0 n.0 (omega arith)) in
    let more = kept_put s w.key c w.value k.0 in
    let others : AllByRecursion (λ u. (newest (p.versions u.key)).stamp < c) ws = all_two _ _ (λ u. (newest (p.versions u.key)).stamp < c) (λ u ne lt. rw (ne_eqb w.key u.key (λ e. ne (sym e))) lt) ws d.0 n.1 in
    let rest = added_all c ws p d.1 k.1 others (omega arith) in
    subst (λ t. AreAdded c (w ∷ ws) s (all_added c t ws)) fine (record { keys = rest.keys; cells = rest.cells; versions = λ j. rest.versions j ∙ here j (eqb w.key j) refl })
  where
    here : (j : ℕ) (b : Bool) → eqb w.key j ≡ b → with_own (own_write j ws) c (cond b (record { stamp = c; value = w.value } ∷ s.versions j) (s.versions j)) ≡ with_own (option_map (λ (v : Write). v.value) (cond b (Some w) (find (λ v. eqb v.key j) ws))) c (s.versions j)
    here j true e = rw (own_none j ws (subst (λ i. AllByRecursion (λ u. u.key ≡ i → ⊥) ws) (eqb-true w.key j e) d.0))
    here j false e = refl

revisions_stamped : (k c : ℕ) (ws : List Write) (vs : List Version) → AreDistinct ws → revisions_of k (stamped c ws ++ vs) ≡ with_own (own_write k ws) c (revisions_of k vs)
revisions_stamped k c [] vs d = refl
revisions_stamped k c (w ∷ ws) vs d = go (eqb w.key k) refl (revisions_stamped k c ws vs d.1)
  where
    go : (b : Bool) → eqb w.key k ≡ b → revisions_of k (stamped c ws ++ vs) ≡ with_own (own_write k ws) c (revisions_of k vs) → cond (b && true) (record { stamp = c; value = w.value } ∷ revisions_of k (stamped c ws ++ vs)) (revisions_of k (stamped c ws ++ vs)) ≡ with_own (option_map (λ (v : Write). v.value) (cond b (Some w) (find (λ v. eqb v.key k) ws))) c (revisions_of k vs)
    go true e ih = let none = own_none k ws (subst (λ i. AllByRecursion (λ u. u.key ≡ i → ⊥) ws) (eqb-true w.key k e) d.0) in ap (λ ps. record { stamp = c; value = w.value } ∷ ps) (ih ∙ ap (λ o. with_own o c (revisions_of k vs)) none)
    go false e ih = ih

-- The validator

pub record AreNoted (c : ℕ) (ws : List Write) (v n : Stamps) : Type 0 where
  pub keys : n.keys ≡ v.keys
  pub granule : n.granule ≡ v.granule
  pub stamps : (k : ℕ) → k < v.keys → n.stamp (v.granule k) ≡ cond (list_writes_into v.granule k ws) c (stamp_at v k)

note_fine : (v : Stamps) (k c : ℕ) → k < v.keys → stamp_at v k ≤ c → with_stamps v (λ g. cond (eqb (v.granule k) g) c (v.stamp g)) ≡ noted v k c
note_fine v k c lt le = let a = lt-leb v.keys k lt in let b = le-ltb c (stamp_at v k) le in rw (a, b)

noted_all : (c : ℕ) (ws : List Write) (v : Stamps) → AllByRecursion (λ w. w.key < v.keys) ws → ((k : ℕ) → k < v.keys → stamp_at v k ≤ c) → AreNoted c ws v (all_noted c v ws)
noted_all c [] v k le = record { keys = refl; granule = refl; stamps = λ k lt. refl }
noted_all c (w ∷ ws) v k le =
    let n = with_stamps v (λ g. cond (eqb (v.granule w.key) g) c (v.stamp g)) in
    let below : (j : ℕ) → j < v.keys → stamp_at n j ≤ c = λ j lt. cond_both (eqb (v.granule w.key) (v.granule j)) c (stamp_at v j) (λ x. x ≤ c) (λ _. omega arith) (λ _. le j lt) in
    let rest = noted_all c ws n k.1 below in
    subst (λ m. AreNoted c (w ∷ ws) v (all_noted c m ws)) (note_fine v w.key c k.0 (le w.key k.0)) (record { keys = rest.keys; granule = rest.granule; stamps = λ j lt. rest.stamps j lt ∙ here j (eqb (v.granule w.key) (v.granule j)) (list_writes_into v.granule j ws) })
  where
    here : (j : ℕ) (b t : Bool) → cond t c (cond b c (stamp_at v j)) ≡ cond (b || t) c (stamp_at v j)
    here j true true = refl
    here j true false = refl
    here j false t = refl

granule_touched : (g : ℕ → ℕ) (k c : ℕ) (ws : List Write) (vs : List Version) → granule_stamp g k vs ≤ c → granule_stamp g k (stamped c ws ++ vs) ≡ cond (list_writes_into g k ws) c (granule_stamp g k vs)
granule_touched g k c ws vs le = granule_stamped g k c ws vs ∙ latest_of (list_writes_into g k ws)
  where
    latest_of : (b : Bool) → max (cond b c 0) (granule_stamp g k vs) ≡ cond b c (granule_stamp g k vs)
    latest_of true = omega (arith, le)
    latest_of false = omega arith

-- The whole

kept_later : (t c s : ℕ) (b : Bool) → t ≤ c → cond b c (kept_stamp t s) ≡ kept_stamp t (cond b c s)
kept_later t c s true le = let e = le-ltb c t le in rw e
kept_later t c s false le = refl

newest_at_most : (c : ℕ) (ps : List Revision) → AllByRecursion (λ p. p.stamp ≤ c) ps → (newest ps).stamp ≤ c
newest_at_most c [] a = omega arith
newest_at_most c (p ∷ ps) a = a.0

kept_stamp_le : (t s : ℕ) → kept_stamp t s ≤ s
kept_stamp_le t s = cond_both (ltb s t) 0 s (λ x. x ≤ s) (λ _. omega arith) (λ _. omega arith)

module _ (l : Ledger) (s : Store) (v : Stamps) (t : Transaction) (order : IsOrderly l) (has : Holds l s v) (keys : s.keys ≡ l.limits.keys) (cells : s.cells ≡ l.limits.cells) (fine : IsWellFormed l.limits l.clock t) (room : length t.writes ≤ l.limits.cells - present_count l) where
  inside : AllByRecursion (λ w. w.key < s.keys) t.writes
  inside = subst (λ n. AllByRecursion (λ w. w.key < n) t.writes) (sym keys) fine.keys

  -- every version is older than the tick that is drawn
  older : (k : ℕ) → k < s.keys → (newest (s.versions k)).stamp < l.clock + 1
  older k lt =
      let le = newest_at_most l.clock (revisions_of k l.versions) (revisions_below k l.clock l.versions (All-weaker _ _ (λ u le e. le) l.versions order.dated.stamps)) in
      rw (has.revisions k lt) (omega (arith, le))

  pub adds : AreAdded (l.clock + 1) t.writes s (all_added (l.clock + 1) s t.writes)
  adds =
      let known : AllByRecursion (λ u. u.key < s.keys) l.versions = subst (λ n. AllByRecursion (λ u. u.key < n) l.versions) (sym keys) order.dated.keys in
      let few = kept_is l s v has known in
      added_all (l.clock + 1) t.writes s fine.distinct inside (All-weaker _ _ (λ w lt. older w.key lt) t.writes inside) (omega (arith, few, order.safe.cells))

  past : (k : ℕ) → granule_stamp v.granule k l.versions ≤ l.clock + 1
  past k = omega (arith, granule_le v.granule k l.clock l.versions order.dated.stamps)

  pub notes : AreNoted (l.clock + 1) t.writes v (all_noted (l.clock + 1) v t.writes)
  notes =
      let low : (k : ℕ) → k < v.keys → stamp_at v k ≤ l.clock + 1 = λ k lt. let e = has.stamps k (subst (λ n. k < n) has.same_keys lt) in omega (arith, e, past k, kept_stamp_le l.trimmed_at (granule_stamp v.granule k l.versions)) in
      noted_all (l.clock + 1) t.writes v (subst (λ m. AllByRecursion (λ w. w.key < m) t.writes) (sym has.same_keys) inside) low

  pub holds_installed : Holds (installed l t) (all_added (l.clock + 1) s t.writes) (all_noted (l.clock + 1) v t.writes)
  holds_installed =
      let c = l.clock + 1 in
      let ws = t.writes in
      let vs = l.versions in
      record {
        same_keys = notes.keys ∙ has.same_keys ∙ sym adds.keys;
        revisions = λ k lt. adds.versions k ∙ ap (with_own (own_write k ws) c) (has.revisions k (subst (λ m. k < m) adds.keys lt)) ∙ sym (revisions_stamped k c ws vs fine.distinct);
        stamps = λ k lt.
            let in-s = subst (λ m. k < m) adds.keys lt in
            let in-v = subst (λ m. k < m) (sym has.same_keys) in-s in
            let w = all_noted c v ws in
            ap (λ g. w.stamp (g k)) notes.granule
            ∙ notes.stamps k in-v
            ∙ ap (λ x. cond (list_writes_into v.granule k ws) c x) (has.stamps k in-s)
            ∙ kept_later l.trimmed_at c (granule_stamp v.granule k vs) (list_writes_into v.granule k ws) order.safe.trimmed_by
            ∙ ap (kept_stamp l.trimmed_at) (sym (granule_touched v.granule k c ws vs (past k)) ∙ ap (λ g. granule_stamp g k (stamped c ws ++ vs)) (sym notes.granule));
      }
