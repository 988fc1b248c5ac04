-- The active transactions of every ledger that is reached are sound.
use Rattle.std.proofs.Common.{◌≡◌, ℕ, suc, ◌+◌, ◌<◌, ◌≤◌, Bool, true, false, cond, not, ◌&&◌, eqb, ltb, leb, List, [], ◌∷◌, ◌++◌, map, length, Some, filter, sym, refl, ap, ◌∙◌, subst, arith}
use Rattle.std.specs.List.{AllByRecursion}
use Rattle.std.proofs.ByRecursion.{All-weaker, all_kept_by, All-map, All-push}
use Rattle.std.proofs.lemmas.List.{length-map, length_push}
use Rattle.std.specs.List.{find, list_any}
use Rattle.std.specs.Option.{is_some, option_map}
use Rattle.std.proofs.lemmas.Bool.{eqb-true, eqb-false, leb-false, ltb-true, cond_both, and_parts, not-true, both_ways}
use Rattle.ledger.specs.declared.TheConstants.{MAX_ACTIVE, MAX_READS, MAX_WRITES}
use Rattle.ledger.specs.declared.Call.{Call}
use Rattle.ledger.specs.declared.Write.{Write}
use Rattle.ledger.specs.declared.Range.{Range}
use Rattle.ledger.specs.Ledger.{Limits, Transaction, Ledger, found, is_reader, own_write, written}
use Rattle.ledger.specs.Calls.{without, changed, joins, joined, same_range, with_range, read_list_full, write_list_full, wrote, reclaimed, having_made}
use Rattle.ledger.specs.History.{Deed}
use Rattle.ledger.specs.Orderly.{AllPairsByRecursion, AreApart, AreDistinct, IsWellFormed, IsSound}
use Rattle.ledger.proofs.Actives.{KeepsIdentity, change, change_keeps, call_keeps, all_found, all_changed}
use Rattle.ledger.proofs.Steps.{Makes, resting, beginning, reading, setting, committing, ending}

length_kept : {X : Type 0} (p : X → Bool) (xs : List X) → length (filter p xs) ≤ length xs
length_kept p [] = omega arith
length_kept p (x ∷ xs) = let h = length_kept p xs in cond_both (p x) (x ∷ filter p xs) (filter p xs) (λ ys. length ys ≤ suc (length xs)) (λ _. omega arith) (λ _. omega arith)

apart_kept : (p : Transaction → Bool) (ts : List Transaction) → AreApart ts → AreApart (filter p ts)
apart_kept p [] a = tt
apart_kept p (t ∷ ts) a = cond_both (p t) (t ∷ filter p ts) (filter p ts) AreApart (λ _. (all_kept_by p _ ts a.0, apart_kept p ts a.1)) (λ _. apart_kept p ts a.1)

-- what a map keeps of two, it keeps of a list
pub pairs_map : {X : Type 0} (P : X → X → Type 0) (f : X → X) → ((x y : X) → P x y → P (f x) (f y)) → (xs : List X) → AllPairsByRecursion P xs → AllPairsByRecursion P (map f xs)
pairs_map P f keeps [] a = tt
pairs_map P f keeps (x ∷ xs) a = (All-map (P (f x)) f xs (All-weaker (P x) (λ y. P (f x) (f y)) (keeps x) xs a.0), pairs_map P f keeps xs a.1)

apart_map : (f : Transaction → Transaction) → ((u : Transaction) → (f u).start ≡ u.start) → (ts : List Transaction) → AreApart ts → AreApart (map f ts)
apart_map f keeps ts a = pairs_map (λ t u. u.start ≡ t.start → ⊥) f (λ t u ne e. ne (sym (keeps u) ∙ e ∙ keeps t)) ts a

abbrev AreSound : Limits → ℕ → List Transaction → Type 0
AreSound n c ts = AllByRecursion (IsWellFormed n c) ts × AreApart ts × (length ts ≤ MAX_ACTIVE)

actives_without : (n : Limits) (c : ℕ) (ts : List Transaction) (h : ℕ) → AreSound n c ts → AreSound n c (without ts h)
actives_without n c ts h a = let le = length_kept (λ t. not (eqb t.start h)) ts in (all_kept_by _ _ ts a.0, apart_kept _ ts a.1, omega (arith, a.2))

actives_changed : (n : Limits) (c : ℕ) (ts : List Transaction) (h : ℕ) (f : Transaction → Transaction) (t : Transaction) → KeepsIdentity f → found ts h ≡ Some t → AreSound n c ts → IsWellFormed n c (f t) → AreSound n c (changed ts h f)
actives_changed n c ts h f t k e a new = (all_changed (IsWellFormed n c) ts h f t a.1 e a.0 new, apart_map (change h f) (change_keeps h f k).start ts a.1, rw (length-map ts (change h f)) a.2)

well_formed_later : (n : Limits) (c : ℕ) (t : Transaction) → IsWellFormed n c t → IsWellFormed n (c + 1) t
well_formed_later n c t b = record { above_zero = b.above_zero; drawn = omega (arith, b.drawn); few_reads = b.few_reads; few_writes = b.few_writes; ranges = b.ranges; keys = b.keys; distinct = b.distinct; reads_only = b.reads_only }

-- A read that joins

few_ranges : (rs : List Range) (k m : ℕ) → length rs ≤ MAX_READS → read_list_full rs k m ≡ false → length (with_range rs k m) ≤ MAX_READS
few_ranges rs k m few room = go (list_any (same_range k m) rs) room
  where
    go : (b : Bool) → (not b && leb MAX_READS (length rs)) ≡ false → length (cond b rs (rs ++ (record { first = k; count = m } ∷ []))) ≤ MAX_READS
    go true e = few
    go false e = let lt = leb-false MAX_READS (length rs) e in rw length_push (omega arith)

all_with_range : (P : Range → Type 0) (rs : List Range) (k m : ℕ) → AllByRecursion P rs → P (record { first = k; count = m }) → AllByRecursion P (with_range rs k m)
all_with_range P rs k m a p = cond_both (list_any (same_range k m) rs) rs _ (AllByRecursion P) (λ _. a) (λ _. All-push P rs _ a p)

well_formed_joined : (n : Limits) (c : ℕ) (t : Transaction) (k m : ℕ) → IsWellFormed n c t → k + m ≤ n.keys → (joins t m && read_list_full t.reads k m) ≡ false → IsWellFormed n c (joined t k m)
well_formed_joined n c t k m b inside room = go (joins t m) refl room
  where
    go : (j : Bool) → joins t m ≡ j → (j && read_list_full t.reads k m) ≡ false → IsWellFormed n c (cond j (record { start = t.start; kind = t.kind; reads = with_range t.reads k m; writes = t.writes }) t)
    go true d e =
        let p = and_parts (not (is_reader t.kind)) (ltb 0 m) d in
        record {
          above_zero = b.above_zero;
          drawn = b.drawn;
          few_reads = few_ranges t.reads k m b.few_reads e;
          few_writes = b.few_writes;
          ranges = all_with_range (λ r. (0 < r.count) × (r.first + r.count ≤ n.keys)) t.reads k m b.ranges (ltb-true 0 m p.1, inside);
          keys = b.keys;
          distinct = b.distinct;
          reads_only = λ r. absurd (both_ways (is_reader t.kind) (not-true _ p.0) r);
        }
    go false d e = b

-- A write: a key written again takes no more places

length_written : (ws : List Write) (k x : ℕ) → length (written ws k x) ≡ cond (is_some (own_write k ws)) (length ws) (suc (length ws))
length_written [] k x = refl
length_written (w ∷ ws) k x = go (eqb w.key k) (length_written ws k x)
  where
    go : (b : Bool) → length (written ws k x) ≡ cond (is_some (own_write k ws)) (length ws) (suc (length ws)) → length (cond b (record { key = k; value = x } ∷ ws) (w ∷ written ws k x)) ≡ cond (is_some (option_map (λ (v : Write). v.value) (cond b (Some w) (find (λ v. eqb v.key k) ws)))) (suc (length ws)) (suc (suc (length ws)))
    go true ih = refl
    go false ih = two (is_some (own_write k ws)) ih
      where
        two : (c : Bool) → length (written ws k x) ≡ cond c (length ws) (suc (length ws)) → suc (length (written ws k x)) ≡ cond c (suc (length ws)) (suc (suc (length ws)))
        two true e = ap suc e
        two false e = ap suc e

few_written : (ws : List Write) (k x : ℕ) → length ws ≤ MAX_WRITES → (not (is_some (own_write k ws)) && leb MAX_WRITES (length ws)) ≡ false → length (written ws k x) ≤ MAX_WRITES
few_written ws k x few room = rw length_written (go (is_some (own_write k ws)) room)
  where
    go : (c : Bool) → (not c && leb MAX_WRITES (length ws)) ≡ false → cond c (length ws) (suc (length ws)) ≤ MAX_WRITES
    go true e = few
    go false e = leb-false MAX_WRITES (length ws) e

all_written : (P : Write → Type 0) (ws : List Write) (k x : ℕ) → P (record { key = k; value = x }) → AllByRecursion P ws → AllByRecursion P (written ws k x)
all_written P [] k x p a = (p, tt)
all_written P (w ∷ ws) k x p a = cond_both (eqb w.key k) (record { key = k; value = x } ∷ ws) (w ∷ written ws k x) (AllByRecursion P) (λ _. (p, a.1)) (λ _. (a.0, all_written P ws k x p a.1))

distinct_written : (ws : List Write) (k x : ℕ) → AreDistinct ws → AreDistinct (written ws k x)
distinct_written [] k x d = (tt, tt)
distinct_written (w ∷ ws) k x d = cond_both (eqb w.key k) (record { key = k; value = x } ∷ ws) (w ∷ written ws k x) AreDistinct
    (λ e. (subst (λ j. AllByRecursion (λ u. u.key ≡ j → ⊥) ws) (eqb-true w.key k e) d.0, d.1))
    (λ e. (all_written (λ u. u.key ≡ w.key → ⊥) ws k x (λ q. eqb-false w.key k e (sym q)) d.0, distinct_written ws k x d.1))

well_formed_wrote : (n : Limits) (c : ℕ) (t : Transaction) (k x : ℕ) → IsWellFormed n c t → is_reader t.kind ≡ false → k + 1 ≤ n.keys → write_list_full t.writes k ≡ false → IsWellFormed n c (wrote t k x)
well_formed_wrote n c t k x b upd inside room = record {
  above_zero = b.above_zero;
  drawn = b.drawn;
  few_reads = b.few_reads;
  few_writes = few_written t.writes k x b.few_writes room;
  ranges = b.ranges;
  keys = all_written (λ w. w.key < n.keys) t.writes k x (omega arith) b.keys;
  distinct = distinct_written t.writes k x b.distinct;
  reads_only = λ r. absurd (both_ways (is_reader t.kind) upd r);
}

-- the next handle is new
next_apart : (n : Limits) (c : ℕ) (ts : List Transaction) → AllByRecursion (IsWellFormed n c) ts → AllByRecursion (λ u. u.start ≡ c + 1 → ⊥) ts
next_apart n c ts a = All-weaker (IsWellFormed n c) _ (λ u b e. omega (arith, b.drawn)) ts a

abbrev parts : (l : Ledger) → IsSound l → AreSound l.limits l.clock l.active
parts l s = (s.fine, s.apart, s.few)

pub sound_reclaimed : (l : Ledger) → IsSound l → IsSound (reclaimed l)
sound_reclaimed l s = record { fine = s.fine; apart = s.apart; few = s.few }

-- an active transaction is well formed, and was found by its handle
pub well_formed_found : {l : Ledger} → IsSound l → (h : ℕ) (t : Transaction) → found l.active h ≡ Some t → IsWellFormed l.limits l.clock t × (t.start ≡ h)
well_formed_found {l = l} s h t f = all_found (IsWellFormed l.limits l.clock) l.active h t s.fine f

sound_changed : (l : Ledger) (h : ℕ) (f : Transaction → Transaction) (t : Transaction) → KeepsIdentity f → IsSound l → found l.active h ≡ Some t → IsWellFormed l.limits l.clock (f t) → IsSound (record { limits = l.limits; clock = l.clock; active = changed l.active h f; versions = l.versions; trimmed_at = l.trimmed_at })
sound_changed l h f t k s e new =
    let a = actives_changed l.limits l.clock l.active h f t k e (parts l s) new in
    record { fine = a.0; apart = a.1; few = a.2 }

pub sound_made : (l m : Ledger) (d : Deed) → IsSound l → Makes l d m → IsSound m
sound_made l m d s resting = s
sound_made l m d s (beginning few more) = record {
  fine = (record { above_zero = omega arith; drawn = omega arith; few_reads = omega arith; few_writes = omega arith; ranges = tt; keys = tt; distinct = tt; reads_only = λ r. (refl, refl) }, All-weaker _ _ (well_formed_later l.limits l.clock) l.active s.fine);
  apart = (next_apart l.limits l.clock l.active s.fine, s.apart);
  few = few;
}
sound_made l m d s (reading {h = h} {k = k} {n = n} how t f inside room) =
    sound_changed l h (λ u. having_made u (Call.Read h k n)) t (call_keeps (Call.Read h k n)) s f (well_formed_joined l.limits l.clock t k n (well_formed_found s h t f).0 inside room)
sound_made l m d s (setting {h = h} {k = k} {x = x} t f upd inside room) =
    sound_changed l h (λ u. having_made u (Call.Write h k x)) t (call_keeps (Call.Write h k x)) s f (well_formed_wrote l.limits l.clock t k x (well_formed_found s h t f).0 upd inside room)
sound_made l m d s (committing {h = h} t f upd clear more room) =
    let a = actives_without l.limits l.clock l.active t.start (parts l s) in
    record { fine = All-weaker _ _ (well_formed_later l.limits l.clock) (without l.active t.start) a.0; apart = a.1; few = a.2 }
sound_made l m d s (ending {h = h} t f) =
    let a = actives_without l.limits l.clock l.active h (parts l s) in
    record { fine = a.0; apart = a.1; few = a.2 }
