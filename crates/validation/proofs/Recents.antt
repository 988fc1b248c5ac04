-- A list of entries in which a key stands at most once.
use Rattle.std.proofs.Common.{◌≡◌, ℕ, zero, suc, ◌+◌, ◌<◌, ◌≤◌, Bool, true, false, cond, eqb, ltb, List, [], ◌∷◌, ◌++◌, length, get_or, Some, None, Option, sym, refl, ap, ◌∙◌, ⊎_elim, arith, below_more, Ok, Err, Result, drop, rules}
use Rattle.std.proofs.lemmas.List.{length_push, length-append, length-drop}
use Rattle.std.proofs.lemmas.Grind.{common_steps}
use Rattle.std.proofs.lemmas.Bool.{eq-eqb, eqb-true, and_parts, cases_Bool}
use Rattle.stamped.specs.Gaps.{closed}
use Rattle.std.specs.Option.{option_map, unwrap_or}
use Rattle.std.specs.Result.{IsOk, OnOk}
use Rattle.stamped.specs.Packing.{Packing, capacity, closed_packing}
use Rattle.stamped.specs.Lookups.{matches, last_position}
use Rattle.stamped.proofs.Closings.{capacity-closed}
use Rattle.stamped.proofs.Lookups.{IsLast, last_at}
use Rattle.stamped.specs.declared.lookup.Moment.TheVariants.{Now}
use Rattle.validation.specs.declared.entry.Entry.{Entry}
use Rattle.validation.specs.declared.validator.Clash.{Clash}
use Rattle.validation.specs.Stamps.{latest, noted, trimmed}
use Rattle.validation.specs.Recent.{stamp_in, list_stamps, entry_count, AreOnePerKey, cleared_entry}
use Rattle.validation.proofs.Answering.{IsFirstClash, same_stamps, noted_fine, latest_at, latest_is}

abbrev of_key : ℕ → Entry → List Entry → Bool
of_key k e behind = eqb e.key k

abbrev pub older : ℕ → Entry → List Entry → Bool
older tick e behind = ltb e.stamp tick

-- an entry counts for its key
some_at : (es : List Entry) (i k : ℕ) (d : Entry) → i < length es → (get_or es i d).key ≡ k → 0 < entry_count k es
some_at [] i k d in' is = absurd (omega arith)
some_at (e ∷ es) zero k d in' is = grind (arith, common_steps)
some_at (e ∷ es) (suc i) k d in' is = grind (arith, common_steps, some_at es i k d (omega arith) is)

-- what holds of 0 and of the stamp of each entry of a key holds of the key's stamp
stamp_by : (P : ℕ → Type 0) (es : List Entry) (k : ℕ) → P 0 → ((i : ℕ) → i < length es → (get_or es i cleared_entry).key ≡ k → P (get_or es i cleared_entry).stamp) → P (stamp_in es k)
stamp_by P [] k base step = base
stamp_by P (e ∷ es) k base step =
    ⊎_elim
    (λ (q : eqb e.key k ≡ true). rw q (step 0 (omega arith) (eqb-true e.key k q)))
    (λ (q : eqb e.key k ≡ false). rw q (stamp_by P es k base (λ i in'. step (suc i) (omega arith))))
    (cases_Bool (eqb e.key k))

absent : (k : ℕ) (es : List Entry) → entry_count k es ≡ 0 → stamp_in es k ≡ 0
absent k es none = stamp_by (λ s. s ≡ 0) es k refl (λ i in' is. absurd (omega (arith, some_at es i k cleared_entry in' is)))

-- what a closing of gaps leaves
count_closed : (drops : Entry → List Entry → Bool) (k : ℕ) (es : List Entry) → entry_count k (closed drops es) ≤ entry_count k es
count_closed drops k [] = omega arith
count_closed drops k (e ∷ es) = grind (arith, common_steps, count_closed drops k es)

pub once_closed : (drops : Entry → List Entry → Bool) (keys : ℕ) (es : List Entry) → AreOnePerKey keys es → AreOnePerKey keys (closed drops es)
once_closed drops keys es once k = let less = count_closed drops k es in omega (arith, once k)

count_gone : (k : ℕ) (es : List Entry) → entry_count k (closed (of_key k) es) ≡ 0
count_gone k [] = refl
count_gone k (e ∷ es) = grind (arith, common_steps, count_gone k es)

length_gone : (k : ℕ) (es : List Entry) → length (closed (of_key k) es) + entry_count k es ≡ length es
length_gone k [] = omega arith
length_gone k (e ∷ es) = grind (arith, common_steps, length_gone k es)

stamp_others : (k : ℕ) (es : List Entry) (j : ℕ) → (k ≡ j → ⊥) → stamp_in (closed (of_key k) es) j ≡ stamp_in es j
stamp_others k [] j other = refl
stamp_others k (e ∷ es) j other = grind (arith, common_steps, stamp_others k es j other)

-- a stamp below the tick becomes 0
abbrev lowered : ℕ → ℕ → ℕ
lowered tick s = cond (ltb s tick) 0 s

lowered_none : (tick : ℕ) → lowered tick 0 ≡ 0
lowered_none tick = grind (arith, common_steps)

stamp_lowered : (tick : ℕ) (es : List Entry) (k : ℕ) → entry_count k es ≤ 1 → stamp_in (closed (older tick) es) k ≡ lowered tick (stamp_in es k)
stamp_lowered tick [] k once = sym (lowered_none tick)
stamp_lowered tick (e ∷ es) k once =
    grind (arith, common_steps, stamp_lowered tick es k, absent k (closed (older tick) es), count_closed (older tick) k es)

-- one more entry at the end
count_push : (k : ℕ) (e : Entry) (es : List Entry) → entry_count k (es ++ e ∷ []) ≡ entry_count k es + cond (eqb e.key k) 1 0
count_push k e [] = grind (arith, common_steps)
count_push k e (d ∷ es) = grind (arith, common_steps, count_push k e es)

stamp_push : (k : ℕ) (e : Entry) (es : List Entry) → entry_count e.key es ≡ 0 → stamp_in (es ++ e ∷ []) k ≡ cond (eqb e.key k) e.stamp (stamp_in es k)
stamp_push k e [] none = grind (arith, common_steps)
stamp_push k e (d ∷ es) none = grind (arith, common_steps, stamp_push k e es)

-- each key at most once, so no more entries than keys
length-one_per_key : (keys : ℕ) (es : List Entry) → AreOnePerKey keys es → length es ≤ keys
length-one_per_key zero [] once = omega arith
length-one_per_key zero (e ∷ es) once = grind (arith, common_steps, once e.key)
length-one_per_key (suc n) es once =
    let less : AreOnePerKey n (closed (of_key n) es) = λ k. grind (arith, common_steps, count_gone n es, count_closed (of_key n) k es, once k) in
    grind (arith, common_steps, length_gone n es, length-one_per_key n (closed (of_key n) es) less, once n)

-- what a note leaves: no other entry of its key, and one at the end
module _ (keys : ℕ) (es : List Entry) (once : AreOnePerKey keys es) (e : Entry) (known : e.key < keys) where
  once_noted : AreOnePerKey keys (closed (of_key e.key) es ++ e ∷ [])
  once_noted k =
      grind (arith, common_steps, count_push k e (closed (of_key e.key) es), count_gone e.key es, once_closed (of_key e.key) keys es once k)

  room_noted : length (closed (of_key e.key) es) < keys
  room_noted = omega (arith, length_push (closed (of_key e.key) es) e, length-one_per_key keys (closed (of_key e.key) es ++ e ∷ []) once_noted)

  list_noted : stamp_in es e.key ≤ e.stamp → list_stamps keys (closed (of_key e.key) es ++ e ∷ []) ≡ noted (list_stamps keys es) e.key e.stamp
  list_noted fresh =
      let left = closed (of_key e.key) es in
      noted_fine (list_stamps keys es) e.key e.stamp known fresh (list_stamps keys (left ++ e ∷ []))
      (same_stamps (list_stamps keys (left ++ e ∷ [])) (λ k. cond (eqb e.key k) e.stamp (stamp_in es k))
      (λ k. grind (arith, common_steps, stamp_push k e left (count_gone e.key es), stamp_others e.key es k)))

one_at_most : (keys : ℕ) (es : List Entry) → AreOnePerKey keys es → (k : ℕ) → entry_count k es ≤ 1
one_at_most keys es once k = grind (arith, common_steps, once k)

pub list_trimmed : (keys : ℕ) (es : List Entry) → AreOnePerKey keys es → (tick : ℕ) → list_stamps keys (closed (older tick) es) ≡ trimmed (list_stamps keys es) tick
list_trimmed keys es once tick =
    same_stamps (list_stamps keys (closed (older tick) es)) (λ k. lowered tick (stamp_in es k)) (λ k. stamp_lowered tick es k (one_at_most keys es once k))

-- an entry is its key's
stamp_at_place : (es : List Entry) (i k : ℕ) (d : Entry) → i < length es → (get_or es i d).key ≡ k → entry_count k es ≤ 1 → stamp_in es k ≡ (get_or es i d).stamp
stamp_at_place [] i k d in' is one = absurd (omega arith)
stamp_at_place (e ∷ es) zero k d in' is one = grind (arith, common_steps)
stamp_at_place (e ∷ es) (suc i) k d in' is one = grind (arith, common_steps, stamp_at_place es i k d (omega arith) is, some_at es i k d (omega arith) is)

-- an entry e stands at place i
module _ (keys : ℕ) (es : List Entry) (once : AreOnePerKey keys es) (i : ℕ) (in' : i < length es) (e : Entry) (is : get_or es i cleared_entry ≡ e) where
  entry_stamp : stamp_in es e.key ≡ e.stamp
  entry_stamp = stamp_at_place es i e.key cleared_entry in' (ap (λ (x : Entry). x.key) is) (one_at_most keys es once e.key) ∙ ap (λ (x : Entry). x.stamp) is

  entry_known : e.key < keys
  entry_known = grind (arith, common_steps, some_at es i e.key cleared_entry in' (ap (λ (x : Entry). x.key) is), once e.key)

  pub entry_latest : e.stamp ≤ latest (list_stamps keys es)
  entry_latest = omega (arith, entry_stamp, latest_at (list_stamps keys es) e.key entry_known)

pub entries_latest : (keys : ℕ) (es : List Entry) (b : ℕ) → ((i : ℕ) → i < length es → (get_or es i cleared_entry).stamp ≤ b) → b ≤ latest (list_stamps keys es) → b ≡ latest (list_stamps keys es)
entries_latest keys es b all most = latest_is (list_stamps keys es) b (λ k known. stamp_by (λ s. s ≤ b) es k (omega arith) (λ i in' is. all i in')) most

-- what was found so far: none, and every key of the range is still to be looked at; or a clash, and only the keys below it are
abbrev pub IsLowestSoFar : List Entry → ℕ → ℕ → ℕ → ℕ → Option Clash → Type 0
IsLowestSoFar es start first full end None = end ≡ full
IsLowestSoFar es start first full end (Some c) = (c.key ≡ end) × (first ≤ end) × (end < full) × (c.stamp ≡ stamp_in es end) × (start < c.stamp)

-- none of the first i entries is a clash at a key below the end
pub record IsLookedThrough (es : List Entry) (start first full end : ℕ) (found : Option Clash) (i : ℕ) : Type 0 where
  pub held : IsLowestSoFar es start first full end found
  pub passed : (j : ℕ) → j < i → first ≤ (get_or es j cleared_entry).key → (get_or es j cleared_entry).key < end → (get_or es j cleared_entry).stamp ≤ start

end_within : (es : List Entry) (start first full end : ℕ) (found : Option Clash) → IsLowestSoFar es start first full end found → end ≤ full
end_within es start first full end None held = omega arith
end_within es start first full end (Some c) held = omega (arith, held.2)

module _ (keys : ℕ) (es : List Entry) (once : AreOnePerKey keys es) (start first full end : ℕ) (found : Option Clash) (i : ℕ) (l : IsLookedThrough es start first full end found i) where
  module _ (in' : i < length es) (e : Entry) (is : get_or es i cleared_entry ≡ e) where
    pub looked_hit : (end' : ℕ) → end' ≡ e.key → first ≤ e.key → e.key < end → start < e.stamp → IsLookedThrough es start first full end' (Some (record { key = e.key; stamp = e.stamp })) (i + 1)
    looked_hit end' now from upto above =
        let in-range = end_within es start first full end found l.held in
        rw now
        (record {
          held = (refl, from, omega arith, sym (entry_stamp keys es once i in' e is), above);
          passed = below_more _ i (λ j h low high. l.passed j h low (omega arith)) (λ low high. absurd (omega (arith, ap (λ (x : Entry). x.key) is)));
        })

    pub looked_miss : (first ≤ e.key → e.key < end → e.stamp ≤ start) → IsLookedThrough es start first full end found (i + 1)
    looked_miss miss = record { held = l.held; passed = below_more _ i l.passed (rw is miss) }

  below : length es ≤ i → (k : ℕ) → first ≤ k → k < end → stamp_in es k ≤ start
  below all k from upto = stamp_by (λ s. s ≤ start) es k (omega arith) (λ j in' key. l.passed j (omega arith) (omega arith) (omega arith))

pub looked_all : (keys : ℕ) (es : List Entry) (once : AreOnePerKey keys es) (start first full end : ℕ) (found : Option Clash) (i : ℕ) → IsLookedThrough es start first full end found i → length es ≤ i → IsFirstClash (list_stamps keys es) start first full found
looked_all keys es once start first full end None i l all = λ k from upto. below keys es once start first full end None i l all k from (omega (arith, l.held))
looked_all keys es once start first full end (Some c) i l all =
    let same = l.held.0 in
    let stamp = l.held.3 ∙ ap (stamp_in es) (sym same) in
    (omega (arith, l.held.1), omega (arith, l.held.2), stamp, l.held.4, λ k from upto. below keys es once start first full end (Some c) i l all k from (omega arith))

-- an entry put behind what a closing has left: there is a place for it
module _ (keys : ℕ) (old left new : Packing Entry) (e : Entry) (once : AreOnePerKey keys old.records) (known : e.key < keys) (places : capacity old ≡ keys) (left-is : left ≡ closed_packing (of_key e.key) old) where
  some : 0 < length left.rest
  some =
      let all = capacity-closed (of_key e.key) old in
      let few = room_noted keys old.records once e known in
      rw left-is (omega (arith, places, all, few))

  pushed : (r : Result (Unit {0}) Entry) → (0 < length left.rest → IsOk r) → OnOk r (new ≡ record { records = left.records ++ e ∷ []; rest = drop 1 left.rest }) → (capacity new ≡ keys) × (new.records ≡ closed (of_key e.key) old.records ++ e ∷ [])
  pushed (Err f) fits new-is = absurd (let none = fits some in search rules)
  pushed (Ok u) fits new-is =
      let whole : capacity left ≡ keys = rw left-is (capacity-closed (of_key e.key) old ∙ places) in
      let long : length (left.records ++ e ∷ []) + length (drop 1 left.rest) ≡ keys = simp (length-append, length-drop) (omega (arith, some, whole)) in
      (rw new-is long, ap (λ (p : Packing Entry). p.records) new-is ∙ ap (λ (p : Packing Entry). p.records ++ e ∷ []) left-is)

  module _ (r : Result (Unit {0}) Entry) (fits : 0 < length left.rest → IsOk r) (new-is : OnOk r (new ≡ record { records = left.records ++ e ∷ []; rest = drop 1 left.rest })) where
    pub noting_places : capacity new ≡ keys
    noting_places = (pushed r fits new-is).0

    pub noting_once : AreOnePerKey keys new.records
    noting_once = rw (pushed r fits new-is).1 (once_noted keys old.records once e known)

    pub noting_meaning : stamp_in old.records e.key ≤ e.stamp → list_stamps keys new.records ≡ noted (list_stamps keys old.records) e.key e.stamp
    noting_meaning fresh = rw (pushed r fits new-is).1 (list_noted keys old.records once e known fresh)

-- what a look-up among the entries finds
module _ (keys : ℕ) (es : List Entry) (once : AreOnePerKey keys es) (key : ℕ) where
  abbrev pub of : Entry → Bool
  of e = matches key Now e.key e.stamp

  found_last : (o : Option ℕ) (r : ℕ) → IsLast of es o → r ≡ unwrap_or (option_map (λ i. (get_or es i cleared_entry).stamp) o) 0 → r ≡ stamp_in es key
  found_last (Some i) r last is =
      let same = eqb-true (get_or es i cleared_entry).key key (and_parts (eqb (get_or es i cleared_entry).key key) true (last.1 cleared_entry)).0 in
      is ∙ sym (stamp_at_place es i key cleared_entry last.0 same (one_at_most keys es once key))
  found_last None r none is =
      is ∙ stamp_by (λ s. 0 ≡ s) es key refl (λ i in' same. let y = eq-eqb (get_or es i cleared_entry).key key same in absurd (let z : true ≡ false = rw y at (none i cleared_entry (omega arith) in') in cc))

  pub found_stamp : (o : Option ℕ) (r : ℕ) → o ≡ last_position of es → r ≡ unwrap_or (option_map (λ i. (get_or es i cleared_entry).stamp) o) 0 → r ≡ stamp_in es key
  found_stamp o r found is = found_last o r (rw found (last_at of es)) is
