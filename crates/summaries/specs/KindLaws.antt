-- That each kind keeps the laws of a summary.
use Rattle.std.proofs.Common.{◌≡◌, ℕ, ◌+◌, ◌%◌, ◌^◌, ◌<◌, Option, None, Some, refl, sym, ap, subst, ◌∙◌, arith}
use Rattle.std.proofs.Math.Nat.{add_assoc, add-zero, zero-add, mod-add-mod, add-mod-mod, mod-eq_of_lt}
use Rattle.std.proofs.lemmas.Bool.Decides.{nat_tests}
use Rattle.std.specs.Coded.{le_prop}
use Rattle.ledger.specs.declared.KeyedValue.{KeyedValue}
use Rattle.summaries.specs.declared.kinds.NonZero.{NonZero}
use Rattle.summaries.specs.declared.kinds.Sum.{Sum}
use Rattle.summaries.specs.Kinds.{sum_of, sum_join, smallest_none, smaller_of, smallest_join, non_zero_of, non_zero_join}
use Rattle.summaries.specs.Summaries.{SummaryLaws}

-- of one number in range one figure alone is made
same_made : {M : Type 0} (made : (n : ℕ) → n < 2 ^ 64 → M) {m n : ℕ} (a : m < 2 ^ 64) (b : n < 2 ^ 64) → m ≡ n → made m a ≡ made n b
same_made made {m} a b e = subst (λ (k : ℕ). (c : k < 2 ^ 64) → made m a ≡ made k c) e (λ c. ap (made m) (le_prop a c)) b

-- a kind whose figure is one number, joined by adding modulo 2 ^ 64
module _ {M : Type 0} (of : ℕ → M) (number : M → ℕ) (of-number : (x : M) → of (number x) ≡ x) (number-of : (n : ℕ) → number (of n) ≡ n % 2 ^ 64) where
  -- the multiples of 2 ^ 64 make no difference
  of-mod : (n : ℕ) → of (n % 2 ^ 64) ≡ of n
  of-mod n = ap of (sym (number-of n)) ∙ of-number (of n)

  -- numbers alike modulo 2 ^ 64 make one figure
  of_same : (m n : ℕ) → m % 2 ^ 64 ≡ n % 2 ^ 64 → of m ≡ of n
  of_same m n e = sym (of-mod m) ∙ ap of e ∙ of-mod n

  -- the left number may be wrapped first
  of-left : (m n : ℕ) → of (number (of m) + n) ≡ of (m + n)
  of-left m n = ap (λ k. of (k + n)) (number-of m) ∙ of_same _ _ (mod-add-mod m (2 ^ 64) n)

  -- and so may the right one
  of-right : (m n : ℕ) → of (m + number (of n)) ≡ of (m + n)
  of-right m n = ap (λ k. of (m + k)) (number-of n) ∙ of_same _ _ (add-mod-mod m n (2 ^ 64))

  wrapping_laws : SummaryLaws (of 0) (λ x y. of (number x + number y))
  wrapping_laws = record {
    left_neutral = λ x. of-left 0 (number x) ∙ ap of (zero-add (number x)) ∙ of-number x;
    right_neutral = λ x. of-right (number x) 0 ∙ ap of (add-zero (number x)) ∙ of-number x;
    assoc = λ x y z. of-left (number x + number y) (number z) ∙ ap of (add_assoc (number x) (number y) (number z)) ∙ sym (of-right (number x) (number y + number z));
  }

-- a sum is made of its own value
sum_of-value : (x : Sum) → sum_of x.value ≡ x
sum_of-value x = same_made (λ n within. record { value = n; in_range = within }) _ x.in_range (mod-eq_of_lt x.in_range)

pub sum_laws : SummaryLaws (sum_of 0) sum_join
sum_laws = wrapping_laws sum_of (λ x. x.value) sum_of-value (λ n. refl)

-- the smaller of a value and none is the value
smaller_of-none : (x : Option KeyedValue) → smaller_of x None ≡ x
smaller_of-none None = refl
smaller_of-none (Some a) = refl

-- of three the smallest and leftmost is found in either bracketing
smaller_of-assoc : (x y z : Option KeyedValue) → smaller_of (smaller_of x y) z ≡ smaller_of x (smaller_of y z)
smaller_of-assoc None y z = refl
smaller_of-assoc (Some a) None z = refl
smaller_of-assoc (Some a) (Some b) None = smaller_of-none _
smaller_of-assoc (Some a) (Some b) (Some c) = grind (arith, nat_tests)

pub smallest_laws : SummaryLaws smallest_none smallest_join
smallest_laws = record {
  left_neutral = λ x. refl;
  right_neutral = λ x. ap (λ (least : Option KeyedValue). record { least = least }) (smaller_of-none x.least);
  assoc = λ x y z. ap (λ (least : Option KeyedValue). record { least = least }) (smaller_of-assoc x.least y.least z.least);
}

-- a number of values is made of its own count
non_zero_of-count : (x : NonZero) → non_zero_of x.count ≡ x
non_zero_of-count x = same_made (λ n within. record { count = n; in_range = within }) _ x.in_range (mod-eq_of_lt x.in_range)

pub non_zero_laws : SummaryLaws (non_zero_of 0) non_zero_join
non_zero_laws = wrapping_laws non_zero_of (λ x. x.count) non_zero_of-count (λ n. refl)
