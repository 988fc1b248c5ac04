-- What the program writes.
use Rattle.std.specs.Prelude.{ℕ, List}
use Rattle.ledger.specs.Ledger.{Limits, new_ledger}
use Rattle.club.specs.declared.said.TheConstants.{KEYS}
use Rattle.club.specs.Afternoons.{afternoon_text}

-- the club's keys, each its own granule, 9 cells, and 54 ticks
abbrev pub day_limits : Limits
day_limits = record { keys = KEYS; cells = 9; last = 54; granule = λ k. k }

-- what is written for the lines of a day, from nothing
abbrev pub day_text : List (List ℕ) → List ℕ
day_text ls = afternoon_text (new_ledger day_limits) ls
