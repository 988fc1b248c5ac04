-- What the three kinds come to: the figures that the ledger tells.
use Rattle.std.proofs.Common.{◌≡◌, ℕ, ◌+◌, ◌%◌, ◌^◌, ◌<◌, min, Bool, true, false, cond, ltb, ◌==◌, List, [], ◌∷◌, length, fold, sum_by, Some, Option, sym, refl, ap, ◌∙◌, arith}
use Rattle.std.specs.List.{position_or_len}
use Rattle.std.proofs.Math.Nat.{mod-add-mod, add-mod-mod, mod-eq_of_lt}
use Rattle.std.proofs.lemmas.List.Sums.{sum_by-cons, count_by-le-length}
use Rattle.std.proofs.lemmas.Bool.{ltb-true, ltb-false, eq-eqb, ne_eqb}
use Rattle.ledger.specs.declared.KeyedValue.{KeyedValue}
use Rattle.ledger.specs.declared.Figure.{Figure}
use Rattle.ledger.specs.declared.SummaryKind.TheVariants.{Sum, Smallest, NonZero}
use Rattle.ledger.specs.Figures.{figure_of, least_of}
use Rattle.summaries.specs.Summaries.{summary_of}
use Rattle.summaries.specs.Kinds.{sum_of, sum_one, sum_join, smallest_one, smallest_none, smaller_of, smallest_join, non_zero_of, non_zero_one, non_zero_join}

-- numbers that are added up modulo 2 ^ 64
module _ {M : Type 0} (of : ℕ → M) (number : M → ℕ) (number-of : (n : ℕ) → number (of n) ≡ n % 2 ^ 64) (f : ℕ → ℕ) where
  added_up : (k : ℕ) (xs : List ℕ) → number (summary_of (λ j x. of (f x)) (of 0) (λ a b. of (number a + number b)) k xs) ≡ sum_by f xs % 2 ^ 64
  added_up k [] = number-of 0
  added_up k (x ∷ xs) =
      let rest = summary_of (λ j y. of (f y)) (of 0) (λ a b. of (number a + number b)) (k + 1) xs in
      number-of (number (of (f x)) + number rest)
      ∙ ap (λ n. (n + number rest) % 2 ^ 64) (number-of (f x)) ∙ mod-add-mod (f x) (2 ^ 64) (number rest)
      ∙ ap (λ n. (f x + n) % 2 ^ 64) (added_up (k + 1) xs) ∙ add-mod-mod (f x) (sum_by f xs) (2 ^ 64)
      ∙ ap (λ n. n % 2 ^ 64) (sym (sum_by-cons f x xs))

pub sum_figure : (k : ℕ) (xs : List ℕ) → Figure.Sum (summary_of sum_one (sum_of 0) sum_join k xs).value ≡ figure_of Sum k xs
sum_figure k xs = ap Figure.Sum (added_up sum_of (λ s. s.value) (λ n. refl) (λ x. x) k xs)

-- of fewer than 2 ^ 64 values
pub non_zero_figure : (k : ℕ) (xs : List ℕ) → length xs < 2 ^ 64 → Figure.NonZero (summary_of non_zero_one (non_zero_of 0) non_zero_join k xs).count ≡ figure_of NonZero k xs
non_zero_figure k xs few =
    ap Figure.NonZero (added_up non_zero_of (λ s. s.count) (λ n. refl) (λ x. cond (ltb 0 x) 1 0) k xs
    ∙ mod-eq_of_lt (let most = count_by-le-length (λ x. ltb 0 x) xs in omega (arith, few, most)))

fold_min : (x y : ℕ) (ys : List ℕ) → fold min (min x y) ys ≡ min x (fold min y ys)
fold_min x y [] = refl
fold_min x y (z ∷ zs) = ap (λ n. fold min n zs) (omega arith) ∙ fold_min x (min y z) zs

-- a value, with the first key that has it
abbrev keyed : ℕ → List ℕ → ℕ → Option KeyedValue
keyed k xs least = Some (record { key = k + position_or_len (λ z. z == least) xs; value = least })

keyed_first : (k x : ℕ) (xs : List ℕ) → keyed k (x ∷ xs) x ≡ Some (record { key = k; value = x })
keyed_first k x xs = rw (eq-eqb x x refl) (ap (λ j. Some (record { key = j; value = x })) (omega arith))

keyed_later : (k x least : ℕ) (xs : List ℕ) → (x ≡ least → ⊥) → keyed k (x ∷ xs) least ≡ keyed (k + 1) xs least
keyed_later k x least xs ne = rw (ne_eqb x least ne) (ap (λ j. Some (record { key = j; value = least })) (omega arith))

-- the least of some values is the first of them, or the least of the others
least_found : (k : ℕ) (xs : List ℕ) → (summary_of smallest_one smallest_none smallest_join k xs).least ≡ least_of k xs
least_found k [] = refl
least_found k (x ∷ []) = sym (keyed_first k x [])
least_found k (x ∷ y ∷ ys) =
    ap (smaller_of (Some (record { key = k; value = x }))) (least_found (k + 1) (y ∷ ys)) ∙ go (ltb (fold min y ys) x) refl
  where
    go : (b : Bool) → ltb (fold min y ys) x ≡ b → cond {A = Option KeyedValue} b (keyed (k + 1) (y ∷ ys) (fold min y ys)) (Some (record { key = k; value = x })) ≡ least_of k (x ∷ y ∷ ys)
    go true e =
        let less = ltb-true (fold min y ys) x e in
        let is : fold min (min x y) ys ≡ fold min y ys = fold_min x y ys ∙ omega (arith, less) in
        sym (keyed_later k x (fold min y ys) (y ∷ ys) (λ q. omega (arith, q, less))) ∙ ap (keyed k (x ∷ y ∷ ys)) (sym is)
    go false e =
        let more = ltb-false (fold min y ys) x e in
        let is : fold min (min x y) ys ≡ x = fold_min x y ys ∙ omega (arith, more) in
        sym (keyed_first k x (y ∷ ys)) ∙ ap (keyed k (x ∷ y ∷ ys)) (sym is)

pub smallest_figure : (k : ℕ) (xs : List ℕ) → Figure.Smallest (summary_of smallest_one smallest_none smallest_join k xs).least ≡ figure_of Smallest k xs
smallest_figure k xs = ap Figure.Smallest (least_found k xs)
