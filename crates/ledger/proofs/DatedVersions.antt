-- The stamps of every ledger that is reached: drawn before, newest first, each key's falling.
use Rattle.std.proofs.Common.{◌≡◌, ℕ, ◌+◌, ◌<◌, ◌≤◌, true, List, [], ◌∷◌, ◌++◌, map, sym, refl, ◌∙◌, arith}
use Rattle.std.specs.List.{AllByRecursion}
use Rattle.std.proofs.ByRecursion.{All-append, All-weaker, All-map, all_kept_by}
use Rattle.ledger.specs.declared.Call.{Call}
use Rattle.ledger.specs.declared.Write.{Write}
use Rattle.ledger.specs.Ledger.{Transaction, Version, Ledger, outlook}
use Rattle.ledger.specs.Calls.{with_active, without, changed, ended, reclaimed, stamped, installed}
use Rattle.ledger.specs.History.{Deed}
use Rattle.ledger.specs.Orderly.{AreDistinct, IsWellFormed, IsSound, AreNewestFirst, AreStrictPerKey, IsDated}
use Rattle.ledger.proofs.SoundActives.{pairs_map, well_formed_found}
use Rattle.ledger.proofs.Actives.{KeepsIdentity, call_keeps, all_changed_same, all_two}
use Rattle.ledger.proofs.Deaths.{clear}
use Rattle.ledger.proofs.Steps.{Makes, resting, beginning, reading, setting, committing, ending}

-- what holds of the versions of a commit
pub all_stamped : (P : Version → Type 0) (c : ℕ) (ws : List Write) → AllByRecursion (λ w. P (record { key = w.key; stamp = c; value = w.value; present = true })) ws → AllByRecursion P (stamped c ws)
all_stamped P c ws a = All-map P (λ w. record { key = w.key; stamp = c; value = w.value; present = true }) ws a

pub all_each : {X : Type 0} (P : X → Type 0) → ((x : X) → P x) → (xs : List X) → AllByRecursion P xs
all_each P p [] = tt
all_each P p (x ∷ xs) = (p x, all_each P p xs)

falling_map : (f : Version → Version) → ((v : Version) → (f v).stamp ≡ v.stamp) → (vs : List Version) → AreNewestFirst vs → AreNewestFirst (map f vs)
falling_map f e vs a = pairs_map (λ v w. w.stamp ≤ v.stamp) f (λ v w le. rw (e w, e v) le) vs a

strict_map : (f : Version → Version) → ((v : Version) → (f v).stamp ≡ v.stamp) → ((v : Version) → (f v).key ≡ v.key) → (vs : List Version) → AreStrictPerKey vs → AreStrictPerKey (map f vs)
strict_map f e k vs a = pairs_map (λ v w. w.key ≡ v.key → w.stamp < v.stamp) f (λ v w lt q. rw (e w, e v) (lt (sym (k w) ∙ q ∙ k v))) vs a

falling_stamped : (c : ℕ) (ws : List Write) (vs : List Version) → AllByRecursion (λ v. v.stamp ≤ c) vs → AreNewestFirst vs → AreNewestFirst (stamped c ws ++ vs)
falling_stamped c [] vs a f = f
falling_stamped c (w ∷ ws) vs a f = (All-append _ (stamped c ws) vs (all_stamped (λ v. v.stamp ≤ c) c ws (all_each _ (λ u. omega arith) ws)) a, falling_stamped c ws vs a f)

apart_stamped : (c j : ℕ) (ws : List Write) → AllByRecursion (λ u. u.key ≡ j → ⊥) ws → AllByRecursion (λ v. v.key ≡ j → v.stamp < c) (stamped c ws)
apart_stamped c j ws a = all_stamped (λ v. v.key ≡ j → v.stamp < c) c ws (All-weaker _ _ (λ u ne q. absurd (ne q)) ws a)

strict_stamped : (c : ℕ) (ws : List Write) (vs : List Version) → AreDistinct ws → AllByRecursion (λ v. v.stamp < c) vs → AreStrictPerKey vs → AreStrictPerKey (stamped c ws ++ vs)
strict_stamped c [] vs d a s = s
strict_stamped c (w ∷ ws) vs d a s = (All-append _ (stamped c ws) vs (apart_stamped c w.key ws d.0) (All-weaker _ _ (λ v lt q. lt) vs a), strict_stamped c ws vs d.1 a s)

abbrev AreUnlike : List Version → List Transaction → Type 0
AreUnlike vs ts = AllByRecursion (λ t. AllByRecursion (λ v. v.stamp ≡ t.start → ⊥) vs) ts

-- the versions stay, and so do the clock and the handles of the active transactions, or some are gone
dated_active : (l : Ledger) (ts : List Transaction) → IsDated l → AreUnlike l.versions ts → IsDated (with_active l ts)
dated_active l ts d u = record { ticks = d.ticks; above_zero = d.above_zero; stamps = d.stamps; keys = d.keys; falling = d.falling; strict = d.strict; unlike = u }

dated_ended : (l : Ledger) (h : ℕ) → IsDated l → IsDated (ended l h)
dated_ended l h d = dated_active l (without l.active h) d (all_kept_by _ _ l.active d.unlike)

dated_changed : (l : Ledger) (h : ℕ) (f : Transaction → Transaction) → KeepsIdentity f → IsDated l → IsDated (with_active l (changed l.active h f))
dated_changed l h f k d = dated_active l (changed l.active h f) d (all_changed_same (λ s _. AllByRecursion (λ v. v.stamp ≡ s → ⊥) l.versions) l.active h f k d.unlike)

pub dated_reclaimed : (l : Ledger) → IsDated l → IsDated (reclaimed l)
dated_reclaimed l d =
    let C = clear (outlook l) l.versions in
    record {
      ticks = d.ticks;
      above_zero = All-map _ C l.versions d.above_zero;
      stamps = All-map _ C l.versions d.stamps;
      keys = All-map _ C l.versions d.keys;
      falling = falling_map C (λ v. refl) l.versions d.falling;
      strict = strict_map C (λ v. refl) (λ v. refl) l.versions d.strict;
      unlike = All-weaker _ (λ t. AllByRecursion (λ v. v.stamp ≡ t.start → ⊥) (map C l.versions)) (λ t a. All-map (λ v. v.stamp ≡ t.start → ⊥) C l.versions a) l.active d.unlike;
    }

dated_installed : (l : Ledger) (t : Transaction) → AllByRecursion (IsWellFormed l.limits l.clock) l.active → IsWellFormed l.limits l.clock t → l.clock < l.limits.last → IsDated l → IsDated (installed l t)
dated_installed l t fine f more d =
    let c = l.clock + 1 in
    let older : AllByRecursion (λ v. v.stamp ≤ c) l.versions = All-weaker _ _ (λ v le. omega arith) l.versions d.stamps in
    record {
      ticks = omega arith;
      above_zero = All-append _ (stamped c t.writes) l.versions (all_stamped (λ v. 0 < v.stamp) c t.writes (all_each _ (λ w. omega arith) t.writes)) d.above_zero;
      stamps = All-append _ (stamped c t.writes) l.versions (all_stamped (λ v. v.stamp ≤ c) c t.writes (all_each _ (λ w. omega arith) t.writes)) older;
      keys = All-append _ (stamped c t.writes) l.versions (all_stamped (λ v. v.key < l.limits.keys) c t.writes f.keys) d.keys;
      falling = falling_stamped c t.writes l.versions older d.falling;
      strict = strict_stamped c t.writes l.versions f.distinct (All-weaker _ _ (λ v le. omega arith) l.versions d.stamps) d.strict;
      unlike = all_kept_by _ _ l.active (all_two (IsWellFormed l.limits l.clock) (λ u. AllByRecursion (λ v. v.stamp ≡ u.start → ⊥) l.versions) (λ u. AllByRecursion (λ v. v.stamp ≡ u.start → ⊥) (stamped c t.writes ++ l.versions))
          (λ u b a. All-append _ (stamped c t.writes) l.versions (all_stamped (λ v. v.stamp ≡ u.start → ⊥) c t.writes (all_each _ (λ w e. omega (arith, b.drawn)) t.writes)) a) l.active fine d.unlike);
    }

pub dated_made : (l m : Ledger) (d : Deed) → IsSound l → IsDated l → Makes l d m → IsDated m
dated_made l m e s d resting = d
dated_made l m e s d (beginning few more) = record {
  ticks = omega arith;
  above_zero = d.above_zero;
  stamps = All-weaker _ _ (λ v le. omega arith) l.versions d.stamps;
  keys = d.keys;
  falling = d.falling;
  strict = d.strict;
  unlike = (All-weaker _ _ (λ v le e. omega arith) l.versions d.stamps, d.unlike);
}
dated_made l m e s d (reading {h = h} {k = k} {n = n} how t f inside room) = dated_changed l h _ (call_keeps (Call.Read h k n)) d
dated_made l m e s d (setting {h = h} {k = k} {x = x} t f upd inside room) = dated_changed l h _ (call_keeps (Call.Write h k x)) d
dated_made l m e s d (committing {h = h} t f upd clear more room) = dated_installed l t s.fine (well_formed_found s h t f).0 more d
dated_made l m e s d (ending {h = h} t f) = dated_ended l h d
