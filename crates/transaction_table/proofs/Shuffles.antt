-- Lists with the same elements in another order.
use Rattle.std.proofs.Common.{◌≡◌, ℕ, suc, min, Bool, true, false, cond, eqb, List, [], ◌∷◌, map, length, Some, filter, sym, refl, ap, ◌∙◌, arith}
use Rattle.std.specs.List.{AllByRecursion}
use Rattle.std.proofs.lemmas.Bool.{eqb-true}
use Rattle.ledger.specs.declared.Kind.{Kind}
use Rattle.ledger.specs.Ledger.{Transaction, found, least_start}
use Rattle.transaction_table.specs.Shuffle.{IsShuffle, done, keep, swap, join}
use Rattle.ledger.specs.Orderly.{AreApart}

pub shuffle_refl : {X : Type 0} (xs : List X) → IsShuffle xs xs
shuffle_refl [] = done
shuffle_refl (x ∷ xs) = keep (shuffle_refl xs)

pub shuffle_kept : {X : Type 0} (p : X → Bool) {xs ys : List X} → IsShuffle xs ys → IsShuffle (filter p xs) (filter p ys)
shuffle_kept p done = done
shuffle_kept p (keep {x = x} {xs = xs} {ys = ys} s) =
    let r = shuffle_kept p s in
    elim (p x) as (λ b. IsShuffle (cond b (x ∷ filter p xs) (filter p xs)) (cond b (x ∷ filter p ys) (filter p ys))) [ true ↦ keep r | false ↦ r ]
shuffle_kept p (swap {x = x} {y = y} {xs = xs}) = both (p x) (p y)
  where
    both : (a b : Bool) → IsShuffle (cond a (x ∷ cond b (y ∷ filter p xs) (filter p xs)) (cond b (y ∷ filter p xs) (filter p xs))) (cond b (y ∷ cond a (x ∷ filter p xs) (filter p xs)) (cond a (x ∷ filter p xs) (filter p xs)))
    both true true = swap
    both true false = shuffle_refl _
    both false true = shuffle_refl _
    both false false = shuffle_refl _
shuffle_kept p (join r s) = join (shuffle_kept p r) (shuffle_kept p s)

pub shuffle_map : {X Y : Type 0} (f : X → Y) {xs ys : List X} → IsShuffle xs ys → IsShuffle (map f xs) (map f ys)
shuffle_map f done = done
shuffle_map f (keep s) = keep (shuffle_map f s)
shuffle_map f swap = swap
shuffle_map f (join r s) = join (shuffle_map f r) (shuffle_map f s)

pub shuffle_length : {X : Type 0} {xs ys : List X} → IsShuffle xs ys → length xs ≡ length ys
shuffle_length done = refl
shuffle_length (keep s) = ap suc (shuffle_length s)
shuffle_length swap = refl
shuffle_length (join r s) = shuffle_length r ∙ shuffle_length s

shuffle_all : {X : Type 0} (P : X → Type 0) {xs ys : List X} → IsShuffle xs ys → AllByRecursion P xs → AllByRecursion P ys
shuffle_all P done h = tt
shuffle_all P (keep s) h = (h.0, shuffle_all P s h.1)
shuffle_all P swap h = (h.1.0, (h.0, h.1.1))
shuffle_all P (join r s) h = shuffle_all P s (shuffle_all P r h)

pub shuffle_apart : {xs ys : List Transaction} → IsShuffle xs ys → AreApart xs → AreApart ys
shuffle_apart done h = tt
shuffle_apart (keep {x = x} s) h = (shuffle_all (λ u. u.start ≡ x.start → ⊥) s h.0, shuffle_apart s h.1)
shuffle_apart swap h = ((λ e. h.0.0 (sym e), h.1.0), (h.0.1, h.1.1))
shuffle_apart (join r s) h = shuffle_apart s (shuffle_apart r h)

pub shuffle_found : {xs ys : List Transaction} → IsShuffle xs ys → AreApart xs → (h : ℕ) → found xs h ≡ found ys h
shuffle_found done a h = refl
shuffle_found (keep {x = x} s) a h = ap (λ o. cond (eqb x.start h) (Some x) o) (shuffle_found s a.1 h)
shuffle_found (swap {x = x} {y = y} {xs = xs}) a h = both (eqb x.start h) (eqb y.start h) refl refl
  where
    both : (p q : Bool) → eqb x.start h ≡ p → eqb y.start h ≡ q → cond p (Some x) (cond q (Some y) (found xs h)) ≡ cond q (Some y) (cond p (Some x) (found xs h))
    both true true d e = absurd (a.0.0 (eqb-true _ h e ∙ sym (eqb-true _ h d)))
    both true false d e = refl
    both false true d e = refl
    both false false d e = refl
shuffle_found (join r s) a h = shuffle_found r a h ∙ shuffle_found s (shuffle_apart r a) h

pub shuffle_least : (p : Kind → Bool) (n : ℕ) {xs ys : List Transaction} → IsShuffle xs ys → least_start p n xs ≡ least_start p n ys
shuffle_least p n done = refl
shuffle_least p n (keep {x = x} s) = ap (λ m. cond (p x.kind) (min x.start m) m) (shuffle_least p n s)
shuffle_least p n (swap {x = x} {y = y} {xs = xs}) = both (p x.kind) (p y.kind)
  where
    both : (a b : Bool) → cond a (min x.start (cond b (min y.start (least_start p n xs)) (least_start p n xs))) (cond b (min y.start (least_start p n xs)) (least_start p n xs)) ≡ cond b (min y.start (cond a (min x.start (least_start p n xs)) (least_start p n xs))) (cond a (min x.start (least_start p n xs)) (least_start p n xs))
    both true true = omega arith
    both true false = refl
    both false true = refl
    both false false = refl
shuffle_least p n (join r s) = shuffle_least p n r ∙ shuffle_least p n s
