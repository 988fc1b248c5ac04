-- What a transaction reads from a store.
use Rattle.std.specs.Prelude.{ℕ, List, if◌then◌else◌, map}
use Rattle.std.specs.List.{range_with_len}
use Rattle.std.specs.Option.{unwrap_or}
use Rattle.ledger.specs.Ledger.{Transaction, moment_of, is_reader, own_write}
use Rattle.versions.specs.Stores.{Store, newest, as_of}

-- a reader as of its moment, an updater its own write or else the newest value
abbrev pub read_value : Store → Transaction → ℕ → ℕ
read_value s t k =
    if is_reader t.kind then (as_of (moment_of t) (s.versions k)).value
    else unwrap_or (own_write k t.writes) (newest (s.versions k)).value

-- what it reads at the n keys from k on, by rising key
abbrev pub values_read : Store → Transaction → ℕ → ℕ → List ℕ
values_read s t k n = map (read_value s t) (range_with_len k n)
