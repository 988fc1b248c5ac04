-- What a read or a write makes of a transaction's lists, and when they are full.
use Rattle.std.specs.Prelude.{ℕ, Bool, if◌then◌else◌, List, Ok, Err, Result, ◌==◌}
use Rattle.std.specs.Result.{is_ok}
use Rattle.ledger.specs.declared.Range.{Range}
use Rattle.ledger.specs.declared.Write.{Write}
use Rattle.ledger.specs.Ledger.{written}
use Rattle.ledger.specs.Calls.{with_range, read_list_full, write_list_full}
use Rattle.transaction_table.specs.declared.lists.Full.{Full}

-- a full list takes no range that is new to it
abbrev pub join_answer : List Range → Range → Result (Unit {0}) Full
join_answer rs r = if read_list_full rs r.first r.count then Err (record {}) else Ok tt

-- the list once the range has joined it, if it was taken
abbrev pub reads_with : List Range → Range → List Range
reads_with rs r = if is_ok (join_answer rs r) then with_range rs r.first r.count else rs

-- it is a write to the key
abbrev pub writes_to : ℕ → Write → Bool
writes_to k w = w.key == k

-- a full list takes no key that is new to it
abbrev pub put_answer : List Write → ℕ → Result (Unit {0}) Full
put_answer ws k = if write_list_full ws k then Err (record {}) else Ok tt

-- the list with the write, if it was taken
abbrev pub writes_with : List Write → Write → List Write
writes_with ws w = if is_ok (put_answer ws w.key) then written ws w.key w.value else ws
