-- What the functions that read a line find in it.
use Rattle.std.proofs.Common.{codes, ◌≡◌, ℕ, ◌+◌, ◌-◌, ◌*◌, ◌<◌, ◌≤◌, false, cond, eqb, ltb, leb, List, [], ◌∷◌, length, take, drop, Some, None, Option, sym, refl, ◌∙◌, arith}
use Rattle.std.specs.List.{position_or_len}
use Rattle.std.proofs.lemmas.List.{drop_all, take_all}
use Rattle.std.proofs.lemmas.Option.{cond_some}
use Rattle.std.proofs.lemmas.Bool.{false_from_ne_true}
use Rattle.std.specs.Str.{bytes_eq}
use Rattle.std.proofs.lemmas.Slice.Eq.{bytes_eq-Decides}
use Rattle.club.specs.Lines.{word, behind, number, digits_on, short, handle, verb}

-- the place of the first space, or the length
abbrev space_or_len : List ℕ → ℕ
space_or_len line = position_or_len (λ c. eqb c 32) line

module _ (line : List ℕ) (r : Option ℕ) (found : r ≡ cond (ltb (space_or_len line) (length line)) (Some (space_or_len line)) None) where
  pub split_at : (i : ℕ) → r ≡ Some i → (take i line ≡ word line) × (drop (i + 1) line ≡ behind line)
  split_at i at = let p = (cond_some (ltb (space_or_len line) (length line)) (space_or_len line) i (sym found ∙ at)).1 in rw (sym p) (refl, refl)

  pub not_split : r ≡ None → (line ≡ word line) × ([] ≡ behind line)
  not_split none = grind (arith, found, none, take_all, drop_all)

-- what of a number is at most the given one
abbrev pub keep : ℕ → Option ℕ → Option ℕ
keep most None = None
keep most (Some n) = cond (leb n most) (Some n) None

digits_on-above : (n : ℕ) (ds : List ℕ) (most top : ℕ) → most < n → keep most (digits_on n ds top) ≡ None
digits_on-above n [] most top h = grind arith
digits_on-above n (d ∷ ds) most top h = grind (arith, digits_on-above (n * 10 + (d - 48)) ds most top)

digits_on-keep : (n : ℕ) (ds : List ℕ) (most top : ℕ) → most ≤ top → n ≤ most → digits_on n ds most ≡ keep most (digits_on n ds top)
digits_on-keep n [] most top h k = grind arith
digits_on-keep n (d ∷ ds) most top h k = grind (arith, digits_on-keep (n * 10 + (d - 48)) ds most top, digits_on-above (n * 10 + (d - 48)) ds most top)

number-keep : (ds : List ℕ) (most top : ℕ) → most ≤ top → number ds most ≡ keep most (number ds top)
number-keep [] most top h = refl
number-keep (d ∷ ds) most top h = digits_on-keep 0 (d ∷ ds) most top h (omega arith)

pub short_below : (ds : List ℕ) → short ds ≡ keep 65535 (number ds 18446744073709551615)
short_below ds = number-keep ds 65535 18446744073709551615 (omega arith)

pub handle_below : (ds : List ℕ) → handle ds ≡ keep 4294967295 (number ds 18446744073709551615)
handle_below ds = number-keep ds 4294967295 18446744073709551615 (omega arith)

-- words that are not equal read otherwise
other_same : (xs ys : List ℕ) → (xs ≡ ys → ⊥) → bytes_eq xs ys ≡ false
other_same xs ys other = false_from_ne_true _ (λ e. other ((bytes_eq-Decides xs ys).0 e))

pub no_verb : (w : List ℕ) → (w ≡ codes "card" → ⊥) → (w ≡ codes "correct" → ⊥) → (w ≡ codes "recalculate" → ⊥) → (w ≡ codes "finish" → ⊥) → (w ≡ codes "list" → ⊥) → (w ≡ codes "figures" → ⊥) → (w ≡ codes "report" → ⊥) → (w ≡ codes "show" → ⊥) → (w ≡ codes "show-figures" → ⊥) → (w ≡ codes "close" → ⊥) → (w ≡ codes "clean" → ⊥) → None ≡ verb w
no_verb w n0 n1 n2 n3 n4 n5 n6 n7 n8 n9 n10 = rw (other_same w (codes "card") n0, other_same w (codes "correct") n1, other_same w (codes "recalculate") n2, other_same w (codes "finish") n3, other_same w (codes "list") n4, other_same w (codes "figures") n5, other_same w (codes "report") n6, other_same w (codes "show") n7, other_same w (codes "show-figures") n8, other_same w (codes "close") n9, other_same w (codes "clean") n10) refl
