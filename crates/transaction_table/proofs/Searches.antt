-- The first element of a list that passes a test.
use Rattle.std.proofs.Common.{◌≡◌, ℕ, zero, suc, ◌<◌, Bool, true, false, List, [], ◌∷◌, get_or, length, set, Some, None, Ok, Err, Option, Result, sym, refl, ap, ◌∙◌, arith, inl, inr}
use Rattle.std.specs.List.{position, position_from, slice_get}
use Rattle.std.specs.Option.{IfSome, ok_or}
use Rattle.std.specs.Result.{IsErrAnd, result_ok}
use Rattle.std.proofs.lemmas.Result.{err_from_is_err_and}
use Rattle.std.proofs.lemmas.Option.{slice_get_cases}
use Rattle.std.proofs.lemmas.List.Quantifiers.{position-Some}
use Rattle.std.proofs.lemmas.Iterator.Adapters.{position_from-zero}
use Rattle.ledger.specs.declared.Fault.{Fault}
use Rattle.transaction_table.specs.Slots.{first_changed}

-- the element where the search ended
pub record PassesAt {X : Type 0} (p : X → Bool) (xs : List X) (i : ℕ) : Type 0 where
  pub at : X
  pub reads : slice_get xs i ≡ Some at
  pub within : i < length xs
  pub passes : p at ≡ true

pub passing : {X : Type 0} (p : X → Bool) (xs : List X) (i : ℕ) (d : X) → Some i ≡ position p xs → PassesAt p xs i
passing p xs i d e = elim (slice_get_cases xs i).1 [
  | inl (at, within, reads, same) ↦ record { at = at; reads = reads; within = within; passes = ap p (sym same) ∙ (position-Some p xs i at (sym e)).1 }
  | inr past ↦ absurd (omega (arith, past.0, (position-Some p xs i d (sym e)).0))
]

pub position_within : {X : Type 0} (p : X → Bool) (xs : List X) (d : X) (r : Option ℕ) → r ≡ position p xs → IfSome r (λ i. i < length xs)
position_within p xs d None e = tt
position_within p xs d (Some i) e = (passing p xs i d e).within

-- the search that finds nothing, as one from an index on
pub nowhere : {X : Type 0} (p : X → Bool) (xs : List X) → None ≡ position p xs → position_from p 0 xs ≡ None
nowhere p xs e = sym (e ∙ position_from-zero p xs)

changed_at : {X : Type 0} (p : X → Bool) (f : X → X) (xs : List X) (i : ℕ) (d : X) → i < length xs → p (get_or xs i d) ≡ true → ((j : ℕ) → j < i → p (get_or xs j d) ≡ false) → first_changed p f xs ≡ set xs i (f (get_or xs i d))
changed_at p f [] i d lt here before = absurd (omega arith)
changed_at p f (x ∷ xs) zero d lt here before = rw here
changed_at p f (x ∷ xs) (suc i) d lt here before = rw (before 0 (omega arith)) (ap (λ us. x ∷ us) (changed_at p f xs i d (omega arith) here (λ j l. before (suc j) (omega arith))))

-- a change of the element where the search ended
pub first_changed-set : {X : Type 0} (p : X → Bool) (f : X → X) (xs : List X) (i : ℕ) (d : X) → Some i ≡ position p xs → first_changed p f xs ≡ set xs i (f (get_or xs i d))
first_changed-set p f xs i d e = let h = position-Some p xs i d (sym e) in changed_at p f xs i d h.0 h.1 h.2

-- A search whose end is an error

-- the search failed
pub refused_search : {X : Type 0} (r : Result X Fault) (o : Option ℕ) (f x : Fault) → IsErrAnd r (λ y. y ≡ x) → Err x ≡ ok_or o f → (r ≡ Err f) × (None ≡ o)
refused_search r None f x err is =
    let p = err_from_is_err_and r err in
    let same : x ≡ f = cc in
    (p.1 ∙ ap Err (p.2 ∙ same), refl)
refused_search r (Some i) f x err is = cc

-- the search ended at an index
pub found_search : (o : Option ℕ) (f : Fault) (i : ℕ) → Ok i ≡ ok_or o f → Some i ≡ o
found_search None f i is = cc
found_search (Some j) f i is = ap result_ok is
