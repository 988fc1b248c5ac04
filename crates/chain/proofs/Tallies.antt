-- How often an index stands in a list, and sums of numbers told by a function.
use Rattle.std.proofs.Common.{◌≡◌, ℕ, zero, suc, ◌+◌, ◌<◌, ◌≤◌, cond, eqb, List, ◌∷◌, ◌++◌, arith}
use Rattle.std.proofs.lemmas.List.Sums.{sum_by-append, sum_by-cons}
use Rattle.std.proofs.lemmas.Grind.{common_steps}
use Rattle.versions.specs.Stores.{sum_below}
use Rattle.chain.specs.Links.{times, HasNoRepeat}

pub times_cons : (i j : ℕ) (js : List ℕ) → times i (j ∷ js) ≡ cond (eqb i j) 1 0 + times i js
times_cons i j js = sum_by-cons (λ k. cond (eqb i k) 1 0) j js

pub times_self : (i : ℕ) (is : List ℕ) → times i (i ∷ is) ≡ suc (times i is)
times_self i is = grind (arith, common_steps)

pub times_none : (i j : ℕ) (js : List ℕ) → times i (j ∷ js) ≡ 0 → (j ≡ i → ⊥) × (times i js ≡ 0)
times_none i j js none = (grind (arith, common_steps), grind (arith, common_steps))

pub times_append : (i : ℕ) (is js : List ℕ) → times i (is ++ js) ≡ times i is + times i js
times_append i is js = sum_by-append (λ j. cond (eqb i j) 1 0) is js

-- the first of a list stands nowhere else in it
pub once_first : (i : ℕ) (is : List ℕ) → HasNoRepeat (i ∷ is) → times i is ≡ 0
once_first i is once = omega (arith, once i, times_self i is)

pub once_rest : (i : ℕ) (is : List ℕ) → HasNoRepeat (i ∷ is) → HasNoRepeat is
once_rest i is once j = omega (arith, once j, times_cons j i is)

-- one of the numbers, and two of them, are no more than the sum
pub sum_has : (n : ℕ) (f : ℕ → ℕ) (k : ℕ) → k < n → f k ≤ sum_below n f
sum_has zero f k low = absurd (omega arith)
sum_has (suc n) f k low = let rest = sum_has n f k in grind (arith, common_steps, rest)

pub sum_two : (n : ℕ) (f : ℕ → ℕ) (j k : ℕ) → j < n → k < n → (j ≡ k → ⊥) → f j + f k ≤ sum_below n f
sum_two zero f j k low low' apart = absurd (omega arith)
sum_two (suc n) f j k low low' apart = let rest = sum_two n f j k in grind (arith, common_steps, rest, sum_has n f j, sum_has n f k)
