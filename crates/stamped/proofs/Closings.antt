-- A loop that moves the records that stay to the front of a slice, and what it leaves.
use Rattle.std.proofs.Common.{◌≡◌, ℕ, ◌+◌, ◌<◌, ◌≤◌, Bool, true, false, cond, List, [], ◌∷◌, ◌++◌, length, get_or, take, drop, set, sym, refl, ap, ◌∙◌, append_assoc, append-nil, length-append, length-drop, arith}
use Rattle.std.proofs.lemmas.Grind.{common_steps}
use Rattle.std.proofs.lemmas.List.{drop_more, drop_all, take_more_set, drop-set-lt, length-set, length-take-le, take-append-drop}
use Rattle.std.proofs.Math.Seq.{drop-drop}
use Rattle.stamped.specs.Gaps.{closed, closed_places}
use Rattle.stamped.specs.Packing.{Packing, capacity, closed_packing}

-- ys began as xs: its first k, and what is left of it from i on once closed, are what is left of xs; from k on it is still xs
pub record Closes {X : Type 0} (drops : X → List X → Bool) (xs ys : List X) (k i : ℕ) : Type 0 where
  pub front : take k ys ++ closed drops (drop i ys) ≡ closed drops xs
  pub back : drop k ys ≡ drop k xs
  pub behind : k ≤ i
  pub long : length ys ≡ length xs

module _ {X : Type 0} (drops : X → List X → Bool) (xs ys : List X) (k i : ℕ) (x : X) (inv : Closes drops xs ys k i) (in' : i < length ys) (is : x ≡ get_or ys i x) where
  closing_step : take k ys ++ cond (drops x (drop (i + 1) ys)) (closed drops (drop (i + 1) ys)) (x ∷ closed drops (drop (i + 1) ys)) ≡ closed drops xs
  closing_step = rw (drop_more ys i x in', ← is) at inv.front

  pub closing_more_gone : drops x (drop (i + 1) ys) ≡ true → Closes drops xs ys k (i + 1)
  closing_more_gone gone = record { front = rw gone at closing_step; back = inv.back; behind = omega arith; long = inv.long }

  pub closing_more_kept : drops x (drop (i + 1) ys) ≡ false → Closes drops xs (set ys k x) (k + 1) (i + 1)
  closing_more_kept kept =
      record {
        front = rw (take_more_set ys k x (omega arith), drop-set-lt (i + 1) ys k x (omega arith), append_assoc) (rw kept at closing_step);
        back = drop-set-lt (k + 1) ys k x (omega arith) ∙ sym (drop-drop 1 k ys) ∙ ap (drop 1) inv.back ∙ drop-drop 1 k xs;
        behind = omega arith;
        long = length-set ys k x ∙ inv.long;
      }

pub closing_none : {X : Type 0} (drops : X → List X → Bool) (xs : List X) → Closes drops xs xs 0 0
closing_none drops xs = record { front = refl; back = refl; behind = omega arith; long = refl }

module _ {X : Type 0} (drops : X → List X → Bool) (xs ys : List X) (k i : ℕ) (inv : Closes drops xs ys k i) (end : length ys ≤ i) (in' : k ≤ length ys) where
  kept : take k ys ≡ closed drops xs
  kept = sym (append-nil (take k ys)) ∙ rw (drop_all i ys end) at inv.front

  pub closing_count : k ≡ length (closed drops xs)
  closing_count = sym (length-take-le k ys in') ∙ ap length kept

  pub closing_places : ys ≡ closed_places drops xs
  closing_places =
      sym (take-append-drop k ys)
      ∙ ap (λ (zs : List X). zs ++ drop k ys) kept
      ∙ ap (λ (zs : List X). closed drops xs ++ zs) (inv.back ∙ ap (λ (n : ℕ). drop n xs) closing_count)

-- no more records stay than there were
pub length-closed : {X : Type 0} (drops : X → List X → Bool) (xs : List X) → length (closed drops xs) ≤ length xs
length-closed drops [] = omega arith
length-closed drops (x ∷ xs) = grind (arith, common_steps, length-closed drops xs)

-- a closing of gaps keeps the places
pub capacity-closed : {X : Type 0} (drops : X → List X → Bool) (p : Packing X) → capacity (closed_packing drops p) ≡ capacity p
capacity-closed drops p =
    let few = length-closed drops p.records in
    simp (length-append, length-drop) (omega arith)
