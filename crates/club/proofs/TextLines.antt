-- The first line of a text, and how many there are.
use Rattle.std.proofs.Common.{◌≡◌, ℕ, zero, suc, ◌+◌, ◌-◌, ◌<◌, ◌≤◌, Bool, true, false, ◌==◌, cond, List, [], ◌∷◌, ◌++◌, length, ◌⊎◌, inl, inr, refl, ap, arith, length-append, get_or, nat_lt, lt-ltb}
use Rattle.std.proofs.Math.Bool.{and-false}
use Rattle.std.proofs.Math.Seq.{get_or-append_seam}
use Rattle.std.proofs.lemmas.Bool.{eqb-true, eqb-false, false_from_ne_true}
use Rattle.std.proofs.lemmas.List.Splits.{length-slice_split}
use Rattle.std.proofs.lemmas.List.Sums.{count_by-le-length}
use Rattle.std.specs.List.{slice_split, onto_first}
use Rattle.std.specs.Io.BufRead.{take_through, drop_through}
use Rattle.std.specs.Str.Lines.{lines, lines_of_parts, strip_carriage_return}
use lib.Seq.{take-append_seam}
use Rattle.club.specs.Lines.{text_of}

-- no line feed is in the text
abbrev HasNone : List ℕ → Type 0
HasNone xs = (i : ℕ) → i < length xs → get_or xs i 0 ≡ 10 → ⊥

-- a text without a line feed
record IsOne (xs : List ℕ) : Type 0 where
  none : HasNone xs
  part : slice_split (λ b. b == 10) xs ≡ xs ∷ []
  taken : take_through 10 xs ≡ xs
  dropped : drop_through 10 xs ≡ []

-- a text with a line feed behind its first part
record IsMore (xs : List ℕ) : Type 0 where
  first : List ℕ
  part : slice_split (λ b. b == 10) xs ≡ first ∷ slice_split (λ b. b == 10) (drop_through 10 xs)
  taken : take_through 10 xs ≡ first ++ (10 ∷ [])

one_or_more : (xs : List ℕ) → IsOne xs ⊎ IsMore xs
one_or_more [] = inl (record { none = λ i h e. absurd (omega (arith, h)); part = refl; taken = refl; dropped = refl })
one_or_more (x ∷ xs) = go (x == 10) refl (one_or_more xs)
  where
    none_more : (x == 10) ≡ false → HasNone xs → HasNone (x ∷ xs)
    none_more e n zero h is = eqb-false x 10 e is
    none_more e n (suc i) h is = n i (omega arith) is

    go : (b : Bool) → (x == 10) ≡ b → IsOne xs ⊎ IsMore xs → IsOne (x ∷ xs) ⊎ IsMore (x ∷ xs)
    go true e rest = inr (record { first = []; part = rw e refl; taken = rw e (ap (λ y. y ∷ []) (eqb-true x 10 e)) })
    go false e (inl one) = inl (record { none = none_more e one.none; part = rw e (ap (onto_first x) one.part); taken = rw e (ap (λ l. x ∷ l) one.taken); dropped = rw e one.dropped })
    go false e (inr more) = inr (record { first = x ∷ more.first; part = rw e (ap (onto_first x) more.part); taken = rw e (ap (λ l. x ∷ l) more.taken) })

text_of-one : (xs : List ℕ) → HasNone xs → text_of xs ≡ xs
text_of-one [] none = refl
text_of-one (x ∷ xs) none =
    let last : (get_or (x ∷ xs) (length (x ∷ xs) - 1) 0 == 10) ≡ false = false_from_ne_true _ (λ h. none (length (x ∷ xs) - 1) (omega arith) (eqb-true _ 10 h)) in
    rw (last, and-false) refl

text_of-more : (f : List ℕ) → text_of (f ++ (10 ∷ [])) ≡ strip_carriage_return f
text_of-more f =
    let size : length (f ++ (10 ∷ [])) ≡ length f + 1 = length-append f (10 ∷ []) in
    let at : length f + 1 - 1 ≡ length f = omega arith in
    let some : nat_lt 0 (length f + 1) ≡ true = lt-ltb 0 (length f + 1) (omega arith) in
    rw (size, at, some, get_or-append_seam f 10 [] 0, take-append_seam f (10 ∷ [])) refl

-- in front of more parts a part loses its carriage return
lines_of_more : (f : List ℕ) (ps : List (List ℕ)) → 0 < length ps → lines_of_parts (f ∷ ps) ≡ strip_carriage_return f ∷ lines_of_parts ps
lines_of_more f [] some = absurd (omega (arith, some))
lines_of_more f (p ∷ ps) some = refl

-- the first line of a text, and the lines behind it
pub lines-first : (xs : List ℕ) → 0 < length xs → lines xs ≡ text_of (take_through 10 xs) ∷ lines (drop_through 10 xs)
lines-first xs some = go (one_or_more xs)
  where
    go : IsOne xs ⊎ IsMore xs → lines xs ≡ text_of (take_through 10 xs) ∷ lines (drop_through 10 xs)
    go (inl one) =
        let filled : (length xs == 0) ≡ false = false_from_ne_true _ (λ h. let none = eqb-true (length xs) 0 h in absurd (omega (arith, none, some))) in
        rw (one.part, filled, one.taken, one.dropped, text_of-one xs one.none) refl
    go (inr more) =
        let parts = length-slice_split (λ b. b == 10) (drop_through 10 xs) in
        rw (more.part, more.taken, text_of-more more.first) (lines_of_more more.first _ (omega (arith, parts)))

-- a text has no more lines than bytes
few_lines : (ps : List (List ℕ)) → length (lines_of_parts ps) ≤ length ps
few_lines [] = omega arith
few_lines (x ∷ []) = last (length x == 0)
  where
    last : (b : Bool) → length (cond b [] (x ∷ [])) ≤ 1
    last true = omega arith
    last false = omega arith
few_lines (x ∷ y ∷ more) = let rest = few_lines (y ∷ more) in omega (arith, rest)

pub lines-few : (xs : List ℕ) → length (lines xs) ≤ length xs + 1
lines-few xs = let one = few_lines (slice_split (λ b. b == 10) xs) in omega (arith, one, length-slice_split (λ b. b == 10) xs, count_by-le-length (λ b. b == 10) xs)
