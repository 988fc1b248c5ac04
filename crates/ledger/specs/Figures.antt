-- One figure of the values of a range of keys.
use Rattle.std.specs.Prelude.{ℕ, ◌+◌, ◌%◌, ◌^◌, min, List, [], ◌∷◌, Some, None, Option, fold, sum, count_by, ◌==◌, nat_lt}
use Rattle.std.specs.List.{position_or_len}
use Rattle.ledger.specs.declared.SummaryKind.{SummaryKind}
use Rattle.ledger.specs.declared.SummaryKind.TheVariants.{Sum, Smallest, NonZero}
use Rattle.ledger.specs.declared.KeyedValue.{KeyedValue}
use Rattle.ledger.specs.declared.Figure.{Figure}

-- the least of these values, which stand at the keys k, k + 1, .., and the first key where it stands; none of no values
abbrev pub least_of : ℕ → List ℕ → Option KeyedValue
least_of k [] = None
least_of k (x ∷ xs) =
    let least = fold min x xs in
    Some (record { key = k + position_or_len (λ y. y == least) (x ∷ xs); value = least })

-- a figure of these values, which stand at the keys k, k + 1, ..
abbrev pub figure_of : SummaryKind → ℕ → List ℕ → Figure
figure_of Sum k xs = Figure.Sum (sum xs % 2 ^ 64)
figure_of Smallest k xs = Figure.Smallest (least_of k xs)
figure_of NonZero k xs = Figure.NonZero (count_by (λ x. nat_lt 0 x) xs)
