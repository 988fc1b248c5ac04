-- Which record a transaction is in, and what a begin makes of the table.
use Rattle.std.specs.Prelude.{ℕ, ◌+◌, Bool, if◌then◌else◌, not, ◌&&◌, List, [], ◌∷◌, length, replicate, Ok, Err, Result, ◌==◌}
use Rattle.refusals.specs.Results.{result_map}
use Rattle.ledger.specs.declared.Fault.{Fault}
use Rattle.ledger.specs.declared.Kind.{Kind}
use Rattle.ledger.specs.declared.Kind.TheVariants.{Reader, Updater}
use Rattle.ledger.specs.declared.TheConstants.{MAX_ACTIVE}
use Rattle.ledger.specs.Ledger.{Transaction, handle_of, is_reader}
use Rattle.ledger.specs.Calls.{fresh, begin_check}
use Rattle.transaction_table.specs.declared.record.State.{State}
use Rattle.transaction_table.specs.declared.record.State.TheVariants.{Free, Reader as Reads, Updater as Updates}
use Rattle.transaction_table.specs.declared.record.Record.{Record}
use Rattle.transaction_table.specs.declared.table.TransactionTable.{TransactionTable}
use Rattle.transaction_table.specs.View.{view, taken, kind_of, active_of, no_ranges, no_writes}

-- Records

abbrev pub is_free : Record → Bool
is_free r = not (taken r.state)

-- a transaction with this handle is in the record
abbrev pub has_handle : ℕ → Record → Bool
has_handle h r = handle_of (view r) == h && taken r.state

-- the first element that passes p is what f makes of it
abbrev pub first_changed : {X : Type 0} → (X → Bool) → (X → X) → List X → List X
first_changed p f [] = []
first_changed p f (x ∷ xs) = if p x then f x ∷ xs else x ∷ first_changed p f xs

abbrev pub is_of_kind : Kind → Kind → Bool
is_of_kind Reader k = is_reader k
is_of_kind Updater k = not (is_reader k)

-- a transaction of this kind is in the record
abbrev pub holds_kind : Kind → State → Bool
holds_kind kind s = taken s && is_of_kind kind (kind_of s)

-- what a record is that holds a transaction of this kind
abbrev pub state_of : Kind → State
state_of Reader = Reads
state_of Updater = Updates

abbrev pub new_record : ℕ → Kind → Record
new_record start kind = record { state = state_of kind; start = start; reads = no_ranges; writes = no_writes }

abbrev pub free_record : Record
free_record = record { state = Free; start = 0; reads = no_ranges; writes = no_writes }

-- The table

abbrev pub new_table : ℕ → TransactionTable
new_table last = record { clock = 0; last = last; records = replicate MAX_ACTIVE free_record }

-- the ledger's check of a begin, and the next tick once it is passed
abbrev pub begin_answer : TransactionTable → Result ℕ Fault
begin_answer t = result_map (λ _. t.clock + 1) (begin_check (length (active_of t.records)) t.clock t.last)

-- the next tick is drawn, and the first free record has the transaction that begins at it
abbrev pub begun : Kind → TransactionTable → TransactionTable
begun kind t = record { clock = t.clock + 1; last = t.last; records = first_changed is_free (λ _. new_record (t.clock + 1) kind) t.records }

-- one transaction more, at this tick
abbrev pub begun_active : Result ℕ Fault → Kind → List Record → List Transaction
begun_active (Ok start) kind rs = fresh start kind ∷ active_of rs
begun_active (Err f) kind rs = active_of rs
