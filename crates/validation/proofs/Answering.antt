-- What shows the answers of a validator, however it keeps its stamps.
use Rattle.std.proofs.Common.{◌≡◌, ℕ, zero, suc, ◌+◌, ◌<◌, ◌≤◌, cond, eqb, Some, None, Ok, Option, refl, ap, ⊎_elim, arith}
use mathlib.Core.Path.{fun_ext}
use Rattle.std.proofs.lemmas.Grind.{common_steps}
use Rattle.std.proofs.lemmas.Bool.{lt-ltb, le-ltb, cases_lt}
use Rattle.validation.specs.declared.validator.Clash.{Clash}
use Rattle.validation.specs.Stamps.{Stamps, stamp_at, clash_at, first_clash, clash_answer, greatest_below, latest, with_stamps, granule_answer, note_answer, noted}

-- the lowest key from k on and below e whose granule has a stamp above the start, with that stamp
abbrev pub IsFirstClash : Stamps → ℕ → ℕ → ℕ → Option Clash → Type 0
IsFirstClash m start k e None = (j : ℕ) → k ≤ j → j < e → stamp_at m j ≤ start
IsFirstClash m start k e (Some c) = (k ≤ c.key) × (c.key < e) × (c.stamp ≡ stamp_at m c.key) × (start < c.stamp) × ((j : ℕ) → k ≤ j → j < c.key → stamp_at m j ≤ start)

module _ (m : Stamps) (start : ℕ) where
  here : (k e : ℕ) (o : Option Clash) → k < e → start < stamp_at m k → IsFirstClash m start k e o → o ≡ Some (clash_at m k)
  here k e None in' hit low = grind (arith, common_steps, low k)
  here k e (Some c) in' hit low =
      let at : k ≡ c.key = grind (arith, common_steps, low.0, low.3, low.4 k) in
      rw at (ap (λ (s : ℕ). Some (record { key = c.key; stamp = s })) low.2)

  beyond : (k e : ℕ) (o : Option Clash) → stamp_at m k ≤ start → IsFirstClash m start k e o → IsFirstClash m start (k + 1) e o
  beyond k e None miss low = λ j from. low j (omega arith)
  beyond k e (Some c) miss low = (grind (arith, common_steps, low.0, low.2, low.3), low.1, low.2, low.3, λ j from. low.4 j (omega arith))

  clash_is : (n k : ℕ) (o : Option Clash) → IsFirstClash m start k (k + n) o → o ≡ first_clash m start k n
  clash_is zero k None low = refl
  clash_is zero k (Some c) low = absurd (omega (arith, low.0, low.1))
  clash_is (suc n) k o low =
      let e : k + suc n ≡ k + 1 + n = omega arith in
      ⊎_elim
      (λ (hit : start < stamp_at m k). rw (lt-ltb start (stamp_at m k) hit) (here k (k + suc n) o (omega arith) hit low))
      (λ (miss : stamp_at m k ≤ start). rw (le-ltb start (stamp_at m k) miss) (clash_is n (k + 1) o (rw e at (beyond k (k + suc n) o miss low))))
      (cases_lt start (stamp_at m k))

  pub clash_answered : (first count : ℕ) (o : Option Clash) → first + count ≤ m.keys → IsFirstClash m start first (first + count) o → Ok o ≡ clash_answer m first count start
  clash_answered first count o in' low = rw (le-ltb m.keys (first + count) in', ← clash_is count first o low)

  -- the key answered, j, is the first that clashes, k
  pub clash_hit : (first count k j s : ℕ) → first + count ≤ m.keys → j ≡ k → first ≤ k → k < first + count → s ≡ stamp_at m k → start < s → ((i : ℕ) → first ≤ i → i < k → stamp_at m i ≤ start) → Ok (Some (record { key = j; stamp = s })) ≡ clash_answer m first count start
  clash_hit first count k j s in' same from upto is above passed = rw same (clash_answered first count (Some (record { key = k; stamp = s })) in' (from, upto, is, above, passed))

greatest_least : (n : ℕ) (f : ℕ → ℕ) (b : ℕ) → ((k : ℕ) → k < n → f k ≤ b) → greatest_below n f ≤ b
greatest_least zero f b all = omega arith
greatest_least (suc n) f b all = grind (arith, common_steps, greatest_least n f b (λ k h. all k (omega arith)), all n)

greatest_most : (n : ℕ) (f : ℕ → ℕ) (k : ℕ) → k < n → f k ≤ greatest_below n f
greatest_most zero f k in' = absurd (omega arith)
greatest_most (suc n) f k in' = grind (arith, common_steps, greatest_most n f k)

pub latest_at : (m : Stamps) (k : ℕ) → k < m.keys → stamp_at m k ≤ latest m
latest_at m k in' = greatest_most m.keys (stamp_at m) k in'

pub latest_is : (m : Stamps) (b : ℕ) → ((k : ℕ) → k < m.keys → stamp_at m k ≤ b) → b ≤ latest m → b ≡ latest m
latest_is m b all most = let least = greatest_least m.keys (stamp_at m) b all in omega arith

-- a meaning with other stamps is the same where each stamp is
pub same_stamps : (m : Stamps) (f : ℕ → ℕ) → ((g : ℕ) → m.stamp g ≡ f g) → m ≡ with_stamps m f
same_stamps m f each = ap (with_stamps m) (fun_ext each)

module _ (m : Stamps) (k s : ℕ) (known : k < m.keys) (fresh : stamp_at m k ≤ s) where
  pub note_fine : note_answer m k s ≡ Ok tt
  note_fine = grind (arith, common_steps)

  pub noted_fine : (n : Stamps) → n ≡ with_stamps m (λ g. cond (eqb (m.granule k) g) s (m.stamp g)) → n ≡ noted m k s
  noted_fine n is = rw note_fine is

pub granule_known : (m : Stamps) (k g : ℕ) → Ok g ≡ granule_answer m k → (k < m.keys) × (g ≡ m.granule k)
granule_known m k g is = (grind (arith, common_steps), grind (arith, common_steps))
