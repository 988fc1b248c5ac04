-- What the laws of a kind give of `summary_of`.
use Rattle.std.proofs.Common.{◌≡◌, ℕ, zero, suc, ◌+◌, List, [], ◌∷◌, ◌++◌, map, length, refl, sym, ap, ◌∙◌, arith}
use Rattle.std.specs.List.{range_with_len}
use Rattle.std.proofs.lemmas.List.{map-append}
use Rattle.std.proofs.lemmas.List.FromFn.{length-map-range_with_len}
use Rattle.summaries.specs.Summaries.{SummaryLaws, summary_of}

-- m keys from k on, and n behind them
keys_append : (k m n : ℕ) → range_with_len k (m + n) ≡ range_with_len k m ++ range_with_len (k + m) n
keys_append k zero n =
    let none : zero + n ≡ n = omega arith in
    ap (range_with_len k) none ∙ ap (λ j. range_with_len j n) (omega arith)
keys_append k (suc m) n =
    let longer : suc m + n ≡ suc (m + n) = omega arith in
    ap (range_with_len k) longer
    ∙ ap (λ ks. k ∷ ks) (keys_append (k + 1) m n ∙ ap (λ j. range_with_len (k + 1) m ++ range_with_len j n) (omega arith))

module _ {M : Type 0} {neutral : M} {join : M → M → M} (laws : SummaryLaws neutral join) (one : ℕ → ℕ → M) where
  -- the keys of xs, and behind them those of ys
  pub summary_of-append : (k : ℕ) (xs ys : List ℕ) → summary_of one neutral join k (xs ++ ys) ≡ join (summary_of one neutral join k xs) (summary_of one neutral join (k + length xs) ys)
  summary_of-append k [] ys = ap (λ n. summary_of one neutral join n ys) (omega arith) ∙ sym (laws.left_neutral _)
  summary_of-append k (x ∷ xs) ys =
      ap (join (one k x)) (summary_of-append (k + 1) xs ys ∙ ap (λ n. join (summary_of one neutral join (k + 1) xs) (summary_of one neutral join n ys)) (omega arith))
      ∙ sym (laws.assoc (one k x) (summary_of one neutral join (k + 1) xs) _)

  -- the first m keys of c, and behind them the other n
  pub summary_of-halves : (f : ℕ → ℕ) (k m n c : ℕ) → m + n ≡ c → summary_of one neutral join k (map f (range_with_len k c)) ≡ join (summary_of one neutral join k (map f (range_with_len k m))) (summary_of one neutral join (k + m) (map f (range_with_len (k + m) n)))
  summary_of-halves f k m n c e =
      let keys = ap (range_with_len k) (sym e) ∙ keys_append k m n in
      ap (summary_of one neutral join k) (ap (map f) keys ∙ map-append f (range_with_len k m) (range_with_len (k + m) n))
      ∙ summary_of-append k (map f (range_with_len k m)) (map f (range_with_len (k + m) n))
      ∙ ap (λ j. join (summary_of one neutral join k (map f (range_with_len k m))) (summary_of one neutral join (k + j) (map f (range_with_len (k + m) n)))) (length-map-range_with_len f k m)

  -- one key more
  pub summary_of_more : (f : ℕ → ℕ) (k i : ℕ) → summary_of one neutral join k (map f (range_with_len k (i + 1))) ≡ join (summary_of one neutral join k (map f (range_with_len k i))) (one (k + i) (f (k + i)))
  summary_of_more f k i = summary_of-halves f k i 1 (i + 1) refl ∙ ap (join (summary_of one neutral join k (map f (range_with_len k i)))) (laws.right_neutral _)
