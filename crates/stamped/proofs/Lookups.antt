-- What the last index at which a test passes says, and that it is the only one that says so.
use Rattle.std.proofs.Common.{◌≡◌, ℕ, zero, suc, ◌+◌, ◌-◌, ◌<◌, ◌≤◌, Bool, true, false, cond, List, [], ◌∷◌, length, Some, None, Option, sym, refl, ap, ◌∙◌, ⊎_elim, true≢false, arith}
use Rattle.std.specs.List.{HoldsAt, AllWithin}
use Rattle.std.specs.Option.{option_map, option_or}
use Rattle.std.proofs.lemmas.Bool.{cases_Bool}
use Rattle.stamped.specs.Lookups.{last_position}

-- p passes at the index and at none behind it, or nowhere
abbrev pub IsLast : {X : Type 0} → (X → Bool) → List X → Option ℕ → Type 0
IsLast p xs None = AllWithin (λ x. p x ≡ false) xs 0 (length xs)
IsLast p xs (Some i) = (i < length xs) × HoldsAt (λ x. p x ≡ true) xs i × AllWithin (λ x. p x ≡ false) xs (i + 1) (length xs)

module _ {X : Type 0} (p : X → Bool) where
  -- one more record in front
  front : (x : X) (xs : List X) (i n : ℕ) → i ≤ n - 1 → (n ≡ 0 → p x ≡ false) → AllWithin (λ y. p y ≡ false) xs i (length xs) → AllWithin (λ y. p y ≡ false) (x ∷ xs) n (length (x ∷ xs))
  front x xs i n less here all zero d low high = here (omega arith)
  front x xs i n less here all (suc k) d low high = all k d (omega arith) (omega arith)

  in_front : (x : X) (xs : List X) (o : Option ℕ) → IsLast p xs o → IsLast p (x ∷ xs) (option_or (option_map suc o) (cond (p x) (Some 0) None))
  in_front x xs (Some i) last = (omega (arith, last.0), last.1, front x xs (i + 1) (suc i + 1) (omega arith) (λ z. absurd (omega arith)) last.2)
  in_front x xs None none =
      ⊎_elim
      (λ (t : p x ≡ true). rw t (omega arith, λ d. t, front x xs 0 1 (omega arith) (λ z. absurd (omega arith)) none))
      (λ (t : p x ≡ false). rw t (front x xs 0 0 (omega arith) (λ z. t) none))
      (cases_Bool (p x))

  pub last_at : (xs : List X) → IsLast p xs (last_position p xs)
  last_at [] = λ k d low high. absurd (omega arith)
  last_at (x ∷ xs) = in_front x xs (last_position p xs) (last_at xs)

  not_both : (xs : List X) (i : ℕ) → i < length xs → HoldsAt (λ x. p x ≡ true) xs i → HoldsAt (λ x. p x ≡ false) xs i → ⊥
  not_both [] i in' passes fails = absurd (omega arith)
  not_both (x ∷ xs) i in' passes fails = true≢false (sym (passes x) ∙ fails x)

  only : (xs : List X) (o q : Option ℕ) → IsLast p xs o → IsLast p xs q → o ≡ q
  only xs None None a b = refl
  only xs None (Some j) a b = absurd (not_both xs j b.0 b.1 (λ d. a j d (omega arith) b.0))
  only xs (Some i) None a b = absurd (not_both xs i a.0 a.1 (λ d. b i d (omega arith) a.0))
  only xs (Some i) (Some j) a b =
      let up = λ (l : i < j). not_both xs j b.0 b.1 (λ d. a.2 j d (omega arith) b.0) in
      let down = λ (l : j < i). not_both xs i a.0 a.1 (λ d. b.2 i d (omega arith) a.0) in
      ap (λ (n : ℕ). Some n) (grind (arith, up, down))

  pub last_is : (xs : List X) (o : Option ℕ) → IsLast p xs o → o ≡ last_position p xs
  last_is xs o last = only xs o (last_position p xs) last (last_at xs)

  pub last_inside : (xs : List X) (i : ℕ) → last_position p xs ≡ Some i → i < length xs
  last_inside xs i is = (rw is at (last_at xs)).0
