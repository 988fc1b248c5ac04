-- The sum of the values, the smallest of them, and how many are not 0.
use Rattle.std.specs.Prelude.{ℕ, ◌+◌, ◌%◌, ◌^◌, if◌then◌else◌, Option, None, Some, nat_lt}
use Rattle.std.proofs.lemmas.Nat.{mod_below, pow_pos}
use Rattle.ledger.specs.declared.KeyedValue.{KeyedValue}
use Rattle.summaries.specs.declared.kinds.NonZero.{NonZero}
use Rattle.summaries.specs.declared.kinds.Smallest.{Smallest}
use Rattle.summaries.specs.declared.kinds.Sum.{Sum}

-- the sum that n is, modulo 2 ^ 64
abbrev pub sum_of : ℕ → Sum
sum_of n = record { value = n % 2 ^ 64; in_range = mod_below n (2 ^ 64) (pow_pos 64) }

-- of one value the sum is the value
abbrev pub sum_one : ℕ → ℕ → Sum
sum_one k v = sum_of v

-- both sums added
abbrev pub sum_join : Sum → Sum → Sum
sum_join x y = sum_of (x.value + y.value)

-- of one value the smallest is the value
abbrev pub smallest_one : ℕ → ℕ → Smallest
smallest_one k v = record { least = Some (record { key = k; value = v }) }

-- no value, so none is the smallest
abbrev pub smallest_none : Smallest
smallest_none = record { least = None }

-- the one with the smaller value, and of equal ones the left
abbrev pub smaller_of : Option KeyedValue → Option KeyedValue → Option KeyedValue
smaller_of None y = y
smaller_of (Some a) None = Some a
smaller_of (Some a) (Some b) = if nat_lt b.value a.value then Some b else Some a

-- the smaller of two smallest values
abbrev pub smallest_join : Smallest → Smallest → Smallest
smallest_join x y = record { least = smaller_of x.least y.least }

-- n values that are not 0, modulo 2 ^ 64
abbrev pub non_zero_of : ℕ → NonZero
non_zero_of n = record { count = n % 2 ^ 64; in_range = mod_below n (2 ^ 64) (pow_pos 64) }

-- a value counts where it is above 0
abbrev pub non_zero_one : ℕ → ℕ → NonZero
non_zero_one k v = non_zero_of (if nat_lt 0 v then 1 else 0)

-- both numbers added
abbrev pub non_zero_join : NonZero → NonZero → NonZero
non_zero_join x y = non_zero_of (x.count + y.count)
