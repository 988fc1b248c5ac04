-- A buffer filled with what a transaction reads.
use Rattle.std.proofs.Common.{◌≡◌, ℕ, zero, suc, ◌+◌, ◌<◌, ◌≤◌, List, [], ◌∷◌, ◌++◌, map, length, get_or, drop, set, sym, refl, ap, ◌∙◌, arith}
use Rattle.std.specs.List.{AllByRecursion, range_with_len}
use Rattle.std.proofs.lemmas.List.{map-append, append_assoc, set_at, drop_more}
use Rattle.std.proofs.lemmas.List.FromFn.{length-map-range_with_len}
use Rattle.std.proofs.lemmas.Bool.{cond_both}
use Rattle.ledger.specs.Ledger.{Transaction}
use Rattle.ledger.specs.Calls.{joins, joined}
use Rattle.versions.specs.Stores.{Store}
use Rattle.engine.specs.Reads.{read_value}

keys_push : (k n : ℕ) → range_with_len k (suc n) ≡ range_with_len k n ++ ((k + n) ∷ [])
keys_push k zero = ap (λ x. x ∷ []) (omega arith)
keys_push k (suc n) = ap (λ ks. k ∷ ks) (keys_push (k + 1) n ∙ ap (λ x. range_with_len (k + 1) n ++ (x ∷ [])) (omega arith))

-- one key more
pub fill_more : (f : ℕ → ℕ) (k i x : ℕ) (old out : List ℕ) → i < length old → out ≡ map f (range_with_len k i) ++ drop i old → x ≡ f (k + i) → set out i x ≡ map f (range_with_len k (i + 1)) ++ drop (i + 1) old
fill_more f k i x old out lt e is =
    let n : length (map f (range_with_len k i)) ≡ i = length-map-range_with_len f k i in
    ap (λ o. set o i x) (e ∙ ap (λ ys. map f (range_with_len k i) ++ ys) (drop_more old i 0 lt))
    ∙ set_at (map f (range_with_len k i)) (get_or old i 0) (drop (i + 1) old) x i n
    ∙ ap (λ y. map f (range_with_len k i) ++ (y ∷ drop (i + 1) old)) is
    ∙ sym (append_assoc (map f (range_with_len k i)) (f (k + i) ∷ []) (drop (i + 1) old))
    ∙ ap (λ ys. ys ++ drop (i + 1) old) (sym (ap (λ m. map f (range_with_len k m)) more ∙ ap (map f) (keys_push k i) ∙ map-append f (range_with_len k i) ((k + i) ∷ [])))
  where
    more : i + 1 ≡ suc i
    more = omega arith

-- a range that joins the read list changes nothing that is read
pub read_value_joined : (s : Store) (u : Transaction) (k n j : ℕ) → read_value s (joined u k n) j ≡ read_value s u j
read_value_joined s u k n j = cond_both (joins u n) _ u (λ x. read_value s x j ≡ read_value s u j) (λ _. refl) (λ _. refl)

pub keys_below : (k n m : ℕ) → k + n ≤ m → AllByRecursion (λ j. j < m) (range_with_len k n)
keys_below k zero m le = tt
keys_below k (suc n) m le = (omega arith, keys_below (k + 1) n m (omega arith))
