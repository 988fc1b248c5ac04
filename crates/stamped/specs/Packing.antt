-- What a packed list of records is seen as, and what a closing of gaps leaves of it.
use Rattle.std.specs.Prelude.{ℕ, ◌+◌, Bool, List, ◌++◌, length, drop}
use Rattle.stamped.specs.Gaps.{closed}

pub record Packing (X : Type 0) : Type 0 where
  -- the records, in the order of adding
  pub records : List X
  -- the places behind them
  pub rest : List X

-- the places in all
abbrev pub capacity : {X : Type 0} → Packing X → ℕ
capacity p = length p.records + length p.rest

-- the records that stay; the places that they gave up lead the rest, with what stood there before
abbrev pub closed_packing : {X : Type 0} → (X → List X → Bool) → Packing X → Packing X
closed_packing drops p =
    record { records = closed drops p.records; rest = drop (length (closed drops p.records)) p.records ++ p.rest }
