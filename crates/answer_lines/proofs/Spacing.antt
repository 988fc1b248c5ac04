-- Values written one after another, a space before each.
use Rattle.std.proofs.Common.{◌≡◌, ℕ, ◌+◌, ◌<◌, List, [], ◌∷◌, ◌++◌, length, get_or, take, codes, decimal, sym, refl, ap, ◌∙◌, append_assoc, append-nil}
use Rattle.std.proofs.lemmas.List.{take_more}
use Rattle.answer_lines.specs.Lines.{spaced}

spaced_push : (xs : List ℕ) (x : ℕ) → spaced (xs ++ (x ∷ [])) ≡ spaced xs ++ (codes " " ++ decimal x)
spaced_push [] x = rw append-nil refl
spaced_push (y ∷ ys) x = ap (λ (l : List ℕ). codes " " ++ l) (ap (λ (l : List ℕ). decimal y ++ l) (spaced_push ys x) ∙ sym (append_assoc (decimal y) (spaced ys) (codes " " ++ decimal x)))

pub spaced_more : (xs : List ℕ) (i : ℕ) → i < length xs → spaced (take i xs) ++ (codes " " ++ decimal (get_or xs i 0)) ≡ spaced (take (i + 1) xs)
spaced_more xs i h = sym (ap spaced (take_more xs i 0 h) ∙ spaced_push (take i xs) (get_or xs i 0))
