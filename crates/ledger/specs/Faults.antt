-- What every refusal of a call says: its number and its place, in the layer of transactions.
use Rattle.std.specs.Prelude.{ℕ}
use Rattle.refusals.specs.declared.Report.{Report}
use Rattle.ledger.specs.declared.TheConstants.{MAX_ACTIVE}
use Rattle.ledger.specs.declared.Fault.{Fault}
use Rattle.ledger.specs.declared.Fault.TheVariants.{KeyOutside, ShortBuffer, NoTransaction, ReaderWrites, TooManyActive, ClockSpent, ReadListFull, WriteListFull}

-- the third layer
abbrev pub third_layer : ℕ → ℕ → Report
third_layer n p = record { layer = 3; number = n; place = p }

abbrev pub fault_report : Fault → Report
-- a key or a range outside the table: the key, or the range's first key
fault_report (KeyOutside k) = third_layer 5 k
-- the buffer is shorter than the count: its length
fault_report (ShortBuffer n) = third_layer 6 n
-- no active transaction has the handle: the handle
fault_report (NoTransaction h) = third_layer 9 h
-- a reader writes: its handle
fault_report (ReaderWrites h) = third_layer 10 h
-- sixteen transactions are active
fault_report TooManyActive = third_layer 11 MAX_ACTIVE
-- the clock is at the last tick: that tick
fault_report (ClockSpent z) = third_layer 12 z
-- the read list is full: the handle
fault_report (ReadListFull h) = third_layer 13 h
-- the write list is full: the handle
fault_report (WriteListFull h) = third_layer 14 h
