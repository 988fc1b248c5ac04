-- A file's records, one by one.
use Rattle.std.proofs.Common.{◌≡◌, ℕ, zero, suc, ◌<◌, ◌≤◌, List, [], ◌∷◌, ◌++◌, length, refl, ap, ◌∙◌, arith}
use Rattle.std.specs.List.{AllByRecursion, concat, onto_first}
use Rattle.callfile.specs.Files.{pieces, records_of}

-- a record that is full
abbrev pub IsFull : List ℕ → Type 0
IsFull r = length r ≡ 20

-- behind a full piece the next begins
behind_full : (n : ℕ) (x : ℕ) (xs rest : List ℕ) → n ≡ length xs → onto_first x (pieces n (xs ++ rest)) ≡ (x ∷ xs) ∷ pieces 20 rest
behind_full n x [] [] e = ap (λ m. onto_first x (pieces m [])) e
behind_full n x [] (y ∷ rest) e = ap (λ m. onto_first x (pieces m (y ∷ rest))) e
behind_full zero x (y ∷ xs) rest e = absurd (omega (arith, e))
behind_full (suc n) x (y ∷ xs) rest e = ap (onto_first x) (behind_full n y xs rest (omega arith))

pub records_of-full : (r rest : List ℕ) → IsFull r → records_of (r ++ rest) ≡ r ∷ records_of rest
records_of-full [] rest e = absurd (omega (arith, e))
records_of-full (x ∷ xs) rest e = behind_full 19 x xs rest (omega arith)

part_of : (n : ℕ) (x : ℕ) (xs : List ℕ) → length xs < n → pieces n (x ∷ xs) ≡ (x ∷ xs) ∷ []
part_of zero x xs h = absurd (omega (arith, h))
part_of (suc n) x [] h = refl
part_of (suc n) x (y ∷ xs) h = ap (onto_first x) (part_of n y xs (omega arith))

-- the last record may be short
pub records_of-part : (r : List ℕ) → 0 < length r → length r ≤ 20 → records_of r ≡ r ∷ []
records_of-part [] h k = absurd (omega (arith, h))
records_of-part (x ∷ xs) h k = part_of 20 x xs (omega arith)

-- full records alone
pub records_of-whole : (rs : List (List ℕ)) → AllByRecursion IsFull rs → records_of (concat rs) ≡ rs
records_of-whole [] full = refl
records_of-whole (q ∷ qs) full = records_of-full q (concat qs) full.0 ∙ ap (λ l. q ∷ l) (records_of-whole qs full.1)
