-- Facts about lists and sums that any version store's proof wants.
use Rattle.std.proofs.Common.{◌≡◌, ℕ, zero, suc, ◌+◌, ◌<◌, Bool, false, cond, ◌||◌, eqb, List, [], ◌∷◌, ◌++◌, filter, refl, ap, ⊎_elim, arith}
use Rattle.std.specs.List.{AllByRecursion, list_any}
use Rattle.std.proofs.lemmas.Grind.{common_steps}
use Rattle.std.proofs.lemmas.List.Folds.{list_any-append}
use Rattle.std.proofs.lemmas.Bool.{eq-eqb, ne_eqb, cases_eq}
use Rattle.versions.specs.Stores.{sum_below}

-- filters

pub kept_by_same : {X : Type 0} (p q : X → Bool) (xs : List X) → AllByRecursion (λ x. p x ≡ q x) xs → filter p xs ≡ filter q xs
kept_by_same p q [] a = refl
kept_by_same p q (x ∷ xs) a = grind (arith, common_steps, kept_by_same p q xs a.1)

pub kept_by_none : {X : Type 0} (p : X → Bool) (xs : List X) → AllByRecursion (λ x. p x ≡ false) xs → filter p xs ≡ []
kept_by_none p [] a = refl
kept_by_none p (x ∷ xs) a = grind (arith, common_steps, kept_by_none p xs a.1)

pub any_none : {X : Type 0} (p : X → Bool) (xs : List X) → AllByRecursion (λ x. p x ≡ false) xs → list_any p xs ≡ false
any_none p [] a = refl
any_none p (x ∷ xs) a = grind (arith, common_steps, any_none p xs a.1)

pub any_push : {X : Type 0} (p : X → Bool) (xs : List X) (y : X) → list_any p (xs ++ y ∷ []) ≡ (p y || list_any p xs)
any_push p xs y = grind (arith, common_steps, list_any-append p xs (y ∷ []))

-- sums

pub sum_none : (n : ℕ) → sum_below n (λ k. 0) ≡ 0
sum_none zero = refl
sum_none (suc n) = let e = sum_none n in omega (arith, e)

pub sum_add : (n : ℕ) (f g h : ℕ → ℕ) → ((k : ℕ) → f k + g k ≡ h k) → sum_below n f + sum_below n g ≡ sum_below n h
sum_add zero f g h e = refl
sum_add (suc n) f g h e = let rest = sum_add n f g h e in let here = e n in omega (arith, rest, here)

pub sum_same : (n : ℕ) (f g : ℕ → ℕ) → ((k : ℕ) → k < n → f k ≡ g k) → sum_below n f ≡ sum_below n g
sum_same zero f g e = refl
sum_same (suc n) f g e =
    let rest = sum_same n f g (λ k h. e k (omega arith)) in
    let here = e n (omega arith) in
    omega (arith, rest, here)

-- the sum after one of the numbers has changed
pub sum_change : (n : ℕ) (f g : ℕ → ℕ) (k : ℕ) → k < n → ((j : ℕ) → (k ≡ j → ⊥) → g j ≡ f j) → sum_below n g + f k ≡ sum_below n f + g k
sum_change zero f g k low same = absurd (omega arith)
sum_change (suc n) f g k low same =
    ⊎_elim
    (λ (e : k ≡ n). omega (arith, ap f e, ap g e, sum_same n g f (λ j below. same j (omega arith))))
    (λ (e : k ≡ n → ⊥). omega (arith, same n e, sum_change n f g k (omega arith) same))
    (cases_eq k n)

-- and after one of them is one more
pub sum_one : (n j : ℕ) (f g : ℕ → ℕ) → j < n → ((k : ℕ) → g k ≡ f k + cond (eqb j k) 1 0) → sum_below n g ≡ sum_below n f + 1
sum_one n j f g low e =
    let here = rw (eq-eqb j j refl) at (e j) in
    let others = sum_change n f g j low (λ k ne. let z = ne_eqb j k ne in let same = rw z at (e k) in omega (arith, same)) in
    omega (arith, here, others)
