-- What a table of stamps means.
use Rattle.std.specs.Prelude.{ℕ, ◌/◌, List, slice_index}
use Rattle.validation.specs.Stamps.{Stamps}

-- keys that lie next to each other share a granule, so many each; the stamp of each granule in its place
abbrev pub table_stamps : ℕ → ℕ → List ℕ → Stamps
table_stamps keys grain stamps =
    record { keys = keys; granule = λ k. k / grain; stamp = λ g. slice_index stamps g }
