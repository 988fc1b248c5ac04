-- The index that a recalculation writes.
use Rattle.std.specs.Prelude.{ℕ, ◌/◌, if◌then◌else◌, List, sum, count_by, ◌==◌, nat_lt}

-- how many rounds were played: a value of 0 is no round
abbrev pub played : List ℕ → ℕ
played values = count_by (λ x. nat_lt 0 x) values

-- the mean of the rounds played, its fraction dropped; 0 without any
abbrev pub index : List ℕ → ℕ
index values = if played values == 0 then 0 else (sum values / played values)
