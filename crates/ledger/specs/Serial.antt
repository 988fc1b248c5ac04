-- The serial table: the transactions of a history run on it one at a time.
use Rattle.std.specs.Prelude.{ℕ, zero, suc, if◌then◌else◌, List, [], ◌∷◌, ◌++◌, map, Some, None, Option, ◌==◌}
use Rattle.std.specs.List.{range_with_len}
use Rattle.ledger.specs.History.{Made, Sight, sight_of, Operation, read_range, write_key, operations, stands_at}

-- one value for each key
abbrev pub Table : Type 0
Table = ℕ → ℕ

-- the table after an operation: a write sets its key's value
abbrev pub applied : Operation → Table → Table
applied (read_range k n how) v = v
applied (write_key k x) v = λ j. if j == k then x else v j

-- the table once these operations are done on it, one after another
abbrev pub run : List Operation → Table → Table
run [] v = v
run (o ∷ more) v = run more (applied o v)

-- a read sees the values of its range by rising key, or the figure of them
abbrev pub sights_in : Operation → Table → List Sight
sights_in (read_range k n how) v = sight_of how k (map v (range_with_len k n)) ∷ []
sights_in (write_key k x) v = []

-- what the reads among these operations see, run in their order
abbrev pub run_reads : List Operation → Table → List Sight
run_reads [] v = []
run_reads (o ∷ more) v = sights_in o v ++ run_reads more (applied o v)

-- the operations of who stands there, if anyone does
abbrev pub operations_of : Option ℕ → List Made → List Operation
operations_of None ms = []
operations_of (Some h) ms = operations h ms

-- the table after the transactions that stand at ticks 1 to t, run singly in that order
abbrev pub table : List Made → ℕ → Table
table ms zero = λ k. 0
table ms (suc t) = run (operations_of (stands_at ms (suc t)) ms) (table ms t)
