-- What a list of recent entries means.
use Rattle.std.specs.Prelude.{ℕ, ◌≤◌, if◌then◌else◌, List, length, filter, find, ◌==◌, nat_lt}
use Rattle.std.specs.Option.{option_map_or}
use Rattle.validation.specs.declared.entry.Entry.{Entry}
use Rattle.validation.specs.Stamps.{Stamps}

-- the stamp of a key's entry; a key without one has stamp 0
abbrev pub stamp_in : List Entry → ℕ → ℕ
stamp_in es k = option_map_or (λ (e : Entry). e.stamp) (find (λ e. e.key == k) es) 0

-- each key is its own granule
abbrev pub list_stamps : ℕ → List Entry → Stamps
list_stamps keys es = record { keys = keys; granule = λ k. k; stamp = stamp_in es }

-- how many entries a key has
abbrev pub entry_count : ℕ → List Entry → ℕ
entry_count k es = length (filter (λ e. e.key == k) es)

-- a key has at most one entry, and what is no key has none
abbrev pub AreOnePerKey : ℕ → List Entry → Type 0
AreOnePerKey keys es = (k : ℕ) → entry_count k es ≤ (if nat_lt k keys then 1 else 0)

-- what a cleared place holds
abbrev pub cleared_entry : Entry
cleared_entry = record { key = 0; stamp = 0 }
