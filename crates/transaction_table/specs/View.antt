-- The transactions that the records of a table stand for.
use Rattle.std.specs.Prelude.{Bool, true, false, if◌then◌else◌, List, [], ◌∷◌}
use Rattle.ledger.specs.declared.TheConstants.{MAX_READS, MAX_WRITES}
use Rattle.ledger.specs.declared.Kind.{Kind}
use Rattle.ledger.specs.declared.Kind.TheVariants.{Reader, Updater}
use Rattle.ledger.specs.declared.Range.{Range}
use Rattle.ledger.specs.declared.Write.{Write}
use Rattle.ledger.specs.Ledger.{Transaction}
use Rattle.transaction_table.specs.declared.lists.Bounded.{Bounded}
use Rattle.transaction_table.specs.Bounded.{held, no_items}
use Rattle.transaction_table.specs.declared.record.State.{State}
use Rattle.transaction_table.specs.declared.record.State.TheVariants.{Free, Reader as Reads, Updater as Updates}
use Rattle.transaction_table.specs.declared.record.Record.{Record}

-- a transaction is in the record
abbrev pub taken : State → Bool
taken Free = false
taken Reads = true
taken Updates = true

abbrev pub kind_of : State → Kind
kind_of Free = Reader
kind_of Reads = Reader
kind_of Updates = Updater

abbrev pub ranges : Bounded Range MAX_READS → List Range
ranges r = held r

abbrev pub writes_of : Bounded Write MAX_WRITES → List Write
writes_of w = held w

-- the lists of a record in which no transaction has read or written
abbrev pub no_ranges : Bounded Range MAX_READS
no_ranges = no_items (record { first = 0; count = 0 })

abbrev pub no_writes : Bounded Write MAX_WRITES
no_writes = no_items (record { key = 0; value = 0 })

abbrev pub view : Record → Transaction
view r = record { start = r.start; kind = kind_of r.state; reads = ranges r.reads; writes = writes_of r.writes }

-- the active transactions, in the order of their records
abbrev pub active_of : List Record → List Transaction
active_of [] = []
active_of (r ∷ rs) = if taken r.state then view r ∷ active_of rs else active_of rs
