-- Worked examples of the calls, as a club's engine answers them.
use Rattle.std.specs.Prelude.{◌≡◌, ℕ, zero, suc, ◌+◌, ◌-◌, ◌/◌, List, [], ◌∷◌, Some, None, Ok, Err, Result}
use Rattle.ledger.specs.declared.TheConstants.{MAX_ACTIVE, MAX_READS, MAX_WRITES}
use Rattle.ledger.specs.declared.Kind.TheVariants.{Reader, Updater}
use Rattle.ledger.specs.declared.Fault.{Fault}
use Rattle.ledger.specs.declared.Fault.TheVariants.{KeyOutside, ShortBuffer, NoTransaction, ReaderWrites, TooManyActive, ClockSpent, ReadListFull, WriteListFull}
use Rattle.ledger.specs.declared.Verdict.TheVariants.{Closed, Restart, Spent, Full, Committed}
use Rattle.ledger.specs.declared.SummaryKind.TheVariants.{Sum, Smallest, NonZero}
use Rattle.ledger.specs.declared.Figure.{Figure}
use Rattle.ledger.specs.declared.Call.{Call}
use Rattle.ledger.specs.declared.Done.{Done}
use Rattle.ledger.specs.Ledger.{Ledger, new_ledger, no_limits}
use Rattle.ledger.specs.Calls.{step}
use Rattle.ledger.specs.History.{Made, call_made}

-- a call made with an empty buffer
abbrev pub unlent : Call → Result Done Fault → Made
unlent c a = call_made c [] a []

-- made one after another, the first in front, the ledger answers each so
abbrev pub Plays : Ledger → List Made → Type 0
Plays l [] = Unit {0}
Plays l (m ∷ ms) = ((step l m.call m.given).answer ≡ m.answer) × ((step l m.call m.given).buffer ≡ m.left) × Plays (step l m.call m.given).ledger ms

-- an engine for 64 keys, each its own granule
abbrev pub club : ℕ → ℕ → Ledger
club cells last = new_ledger (record { keys = 64; cells = cells; last = last; granule = λ k. k })

-- an engine whose granules have four keys
abbrev pub coarse : Ledger
coarse = new_ledger (record { keys = 64; cells = 256; last = 4294967294; granule = λ k. k / 4 })

-- the smallest value, with its key
abbrev pub least : ℕ → ℕ → Figure
least k x = Figure.Smallest (Some (record { key = k; value = x }))

-- an updater that begins at the tick s writes x to the key k and is committed at c
abbrev pub value_committed : ℕ → ℕ → ℕ → ℕ → List Made → List Made
value_committed k s x c more = unlent (Call.Begin Updater) (Ok (Done.Began s)) ∷ unlent (Call.Write s k x) (Ok Done.Wrote) ∷ unlent (Call.Commit s) (Ok (Done.Ended (Committed c))) ∷ more

-- so many readers begin at the ticks from s on
abbrev pub readers_begin : ℕ → ℕ → List Made → List Made
readers_begin zero s more = more
readers_begin (suc n) s more = unlent (Call.Begin Reader) (Ok (Done.Began s)) ∷ readers_begin n (s + 1) more

-- updater 1 reads so many keys from k on, each by itself
abbrev pub ranges_read : ℕ → ℕ → List Made → List Made
ranges_read zero k more = more
ranges_read (suc n) k more = call_made (Call.Read 1 k 1) (9 ∷ []) (Ok (Done.Read 1)) (0 ∷ []) ∷ ranges_read n (k + 1) more

-- updater 1 writes to so many keys from k on
abbrev pub fill : ℕ → ℕ → List Made → List Made
fill zero k more = more
fill (suc n) k more = unlent (Call.Write 1 k 7) (Ok Done.Wrote) ∷ fill n (k + 1) more

-- a reader keeps seeing what stood at its start; an updater that read what has changed since is restarted
abbrev pub listing : List Made
listing =
    unlent (Call.Begin Updater) (Ok (Done.Began 1))
    ∷ unlent (Call.Write 1 5 54) (Ok Done.Wrote)
    ∷ unlent (Call.Begin Reader) (Ok (Done.Began 2))
    ∷ unlent (Call.Begin Updater) (Ok (Done.Began 3))
    ∷ call_made (Call.Read 3 5 1) (9 ∷ 9 ∷ []) (Ok (Done.Read 1)) (0 ∷ 9 ∷ [])
    ∷ unlent (Call.Commit 1) (Ok (Done.Ended (Committed 4)))
    ∷ call_made (Call.Read 2 5 2) (9 ∷ 9 ∷ []) (Ok (Done.Read 2)) (0 ∷ 0 ∷ [])
    ∷ unlent (Call.Commit 3) (Ok (Done.Ended (Restart 5 4)))
    ∷ unlent Call.Reclaim (Ok (Done.Reclaimed 0))
    ∷ unlent (Call.Commit 2) (Ok (Done.Ended Closed))
    ∷ call_made (Call.Read 2 64 0) (9 ∷ 9 ∷ []) (Err (NoTransaction 2)) (9 ∷ 9 ∷ [])
    ∷ unlent (Call.Begin Reader) (Ok (Done.Began 5))
    ∷ call_made (Call.Read 5 5 1) (9 ∷ 9 ∷ []) (Ok (Done.Read 1)) (54 ∷ 9 ∷ [])
    ∷ call_made (Call.Read 5 64 0) (9 ∷ 9 ∷ []) (Ok (Done.Read 0)) (9 ∷ 9 ∷ [])
    ∷ call_made (Call.Read 5 64 1) (9 ∷ 9 ∷ []) (Err (KeyOutside 64)) (9 ∷ 9 ∷ [])
    ∷ []

-- the begin takes the only tick
abbrev pub only_tick : List Made
only_tick =
    unlent (Call.Begin Updater) (Ok (Done.Began 1))
    ∷ unlent (Call.Commit 1) (Ok (Done.Ended Spent))
    ∷ []

-- two writes for one cell
abbrev pub one_cell : List Made
one_cell =
    unlent (Call.Begin Updater) (Ok (Done.Began 1))
    ∷ unlent (Call.Write 1 0 7) (Ok Done.Wrote)
    ∷ unlent (Call.Write 1 1 8) (Ok Done.Wrote)
    ∷ unlent (Call.Commit 1) (Ok (Done.Ended (Full 2 1)))
    ∷ []

-- two cells; without a reader the version before the last is dead, and its cell is had by a reclaim
abbrev pub reclaims_first : List Made
reclaims_first = value_committed 0 1 21 2 (value_committed 0 3 22 4 (value_committed 0 5 23 6 []))

-- two cells; a reader that began between two versions keeps both
abbrev pub reader_keeps : List Made
reader_keeps =
    value_committed 0 1 21 2
    (unlent (Call.Begin Reader) (Ok (Done.Began 3))
    ∷ value_committed 0 4 22 5
    (unlent (Call.Begin Updater) (Ok (Done.Began 6))
    ∷ unlent (Call.Write 6 0 23) (Ok Done.Wrote)
    ∷ unlent (Call.Commit 6) (Ok (Done.Ended (Full 1 0)))
    ∷ []))

-- updater 1 reads key 0, then another commits a write to the key k
abbrev pub meanwhile : ℕ → Result Done Fault → List Made
meanwhile k a =
    unlent (Call.Begin Updater) (Ok (Done.Began 1))
    ∷ call_made (Call.Read 1 0 1) (9 ∷ []) (Ok (Done.Read 1)) (0 ∷ [])
    ∷ unlent (Call.Begin Updater) (Ok (Done.Began 2))
    ∷ unlent (Call.Write 2 k 7) (Ok Done.Wrote)
    ∷ unlent (Call.Commit 2) (Ok (Done.Ended (Committed 3)))
    ∷ unlent (Call.Commit 1) a
    ∷ []

-- an updater that read nothing is committed, though another wrote its key since it began
abbrev pub read_nothing : List Made
read_nothing =
    unlent (Call.Begin Updater) (Ok (Done.Began 1))
    ∷ unlent (Call.Write 1 5 7) (Ok Done.Wrote)
    ∷ unlent (Call.Begin Updater) (Ok (Done.Began 2))
    ∷ unlent (Call.Write 2 5 8) (Ok Done.Wrote)
    ∷ unlent (Call.Commit 2) (Ok (Done.Ended (Committed 3)))
    ∷ unlent (Call.Commit 1) (Ok (Done.Ended (Committed 4)))
    ∷ []

-- an updater sees its own write; a read of what was committed before it began is not stale
abbrev pub own_write_seen : List Made
own_write_seen =
    value_committed 0 1 21 2
    (unlent (Call.Begin Updater) (Ok (Done.Began 3))
    ∷ call_made (Call.Read 3 0 1) (9 ∷ []) (Ok (Done.Read 1)) (21 ∷ [])
    ∷ unlent (Call.Write 3 0 22) (Ok Done.Wrote)
    ∷ call_made (Call.Read 3 0 1) (9 ∷ []) (Ok (Done.Read 1)) (22 ∷ [])
    ∷ unlent (Call.Commit 3) (Ok (Done.Ended (Committed 4)))
    ∷ [])

-- one figure of a run of rounds: the sum goes round at 2^64, the lowest of equal keys is named, a key never written counts with its 0
abbrev pub totals : List Made
totals =
    unlent (Call.Begin Updater) (Ok (Done.Began 1))
    ∷ unlent (Call.Write 1 0 18446744073709551615) (Ok Done.Wrote)
    ∷ unlent (Call.Write 1 2 2) (Ok Done.Wrote)
    ∷ unlent (Call.Write 1 3 2) (Ok Done.Wrote)
    ∷ unlent (Call.Total 1 0 4 Sum) (Ok (Done.Total (Figure.Sum 3)))
    ∷ unlent (Call.Total 1 2 2 Smallest) (Ok (Done.Total (least 2 2)))
    ∷ unlent (Call.Total 1 0 4 Smallest) (Ok (Done.Total (least 1 0)))
    ∷ call_made (Call.Total 1 0 4 NonZero) (9 ∷ []) (Ok (Done.Total (Figure.NonZero 3))) (9 ∷ [])
    ∷ unlent (Call.Begin Reader) (Ok (Done.Began 2))
    ∷ unlent (Call.Commit 1) (Ok (Done.Ended (Committed 3)))
    ∷ unlent (Call.Total 2 0 4 NonZero) (Ok (Done.Total (Figure.NonZero 0)))
    ∷ unlent (Call.Total 2 64 0 Smallest) (Ok (Done.Total (Figure.Smallest None)))
    ∷ call_made (Call.Total 2 64 1 Sum) (9 ∷ []) (Err (KeyOutside 64)) (9 ∷ [])
    ∷ unlent (Call.Total 1 0 4 Sum) (Err (NoTransaction 1))
    ∷ []

-- updater 1 totals two keys of which another then writes the second
abbrev pub total_overwritten : List Made
total_overwritten =
    unlent (Call.Begin Updater) (Ok (Done.Began 1))
    ∷ unlent (Call.Total 1 0 2 Sum) (Ok (Done.Total (Figure.Sum 0)))
    ∷ value_committed 1 2 7 3
    (unlent (Call.Commit 1) (Ok (Done.Ended (Restart 1 3)))
    ∷ [])

-- a total of no keys does not clash
abbrev pub total_of_none : List Made
total_of_none =
    unlent (Call.Begin Updater) (Ok (Done.Began 1))
    ∷ unlent (Call.Total 1 1 0 Sum) (Ok (Done.Total (Figure.Sum 0)))
    ∷ value_committed 1 2 7 3
    (unlent (Call.Commit 1) (Ok (Done.Ended (Committed 4)))
    ∷ [])

-- as many are active as may be
abbrev pub most_active : List Made
most_active = readers_begin MAX_ACTIVE 1 (unlent (Call.Begin Updater) (Err TooManyActive) ∷ [])

-- a full read list takes no other range; one that is there, and one of no keys, need not join it
abbrev pub full_read_list : List Made
full_read_list =
    unlent (Call.Begin Updater) (Ok (Done.Began 1))
    ∷ ranges_read MAX_READS 0
    (call_made (Call.Read 1 MAX_READS 1) (9 ∷ []) (Err (ReadListFull 1)) (9 ∷ [])
    ∷ unlent (Call.Total 1 MAX_READS 1 Sum) (Err (ReadListFull 1))
    ∷ unlent (Call.Total 1 (MAX_READS - 1) 1 Smallest) (Ok (Done.Total (least (MAX_READS - 1) 0)))
    ∷ unlent (Call.Total 1 40 0 Sum) (Ok (Done.Total (Figure.Sum 0)))
    ∷ ranges_read 1 (MAX_READS - 1) (unlent (Call.Read 1 40 0) (Ok (Done.Read 0)) ∷ []))

-- a full write list takes no other key; one that is there gets its new value
abbrev pub full_write_list : List Made
full_write_list =
    unlent (Call.Begin Updater) (Ok (Done.Began 1))
    ∷ fill MAX_WRITES 0 (unlent (Call.Write 1 MAX_WRITES 7) (Err (WriteListFull 1)) ∷ fill 1 (MAX_WRITES - 1) [])

-- a reader writes, a buffer is short, a key is off the table, a handle has ended
abbrev pub refused_calls : List Made
refused_calls =
    unlent (Call.Begin Reader) (Ok (Done.Began 1))
    ∷ unlent (Call.Write 1 0 7) (Err (ReaderWrites 1))
    ∷ call_made (Call.Read 1 0 2) (9 ∷ []) (Err (ShortBuffer 1)) (9 ∷ [])
    ∷ unlent (Call.Begin Updater) (Ok (Done.Began 2))
    ∷ unlent (Call.Write 2 64 7) (Err (KeyOutside 64))
    ∷ unlent (Call.Abort 2) (Ok Done.Aborted)
    ∷ unlent (Call.Abort 2) (Err (NoTransaction 2))
    ∷ []

-- an engine that was set up wrongly
abbrev pub set_up_wrongly : List Made
set_up_wrongly =
    unlent (Call.Begin Reader) (Err (ClockSpent 0))
    ∷ unlent (Call.Read 1 0 0) (Err (NoTransaction 1))
    ∷ unlent (Call.Total 1 0 0 Sum) (Err (NoTransaction 1))
    ∷ unlent Call.Reclaim (Ok (Done.Reclaimed 0))
    ∷ []

-- all the worked examples: each list of calls is answered as it says
pub record Examples : Type 0 where
  pub an_afternoon : Plays (club 256 4294967294) listing
  pub spent : Plays (club 256 1) only_tick
  pub full : Plays (club 1 9) one_cell
  pub reclaimed : Plays (club 2 9) reclaims_first
  pub kept : Plays (club 2 9) reader_keeps
  -- key 3 is in the granule of key 0, key 4 is not
  pub near : Plays coarse (meanwhile 3 (Ok (Done.Ended (Restart 0 3))))
  pub far : Plays coarse (meanwhile 4 (Ok (Done.Ended (Committed 4))))
  pub blind : Plays (club 256 9) read_nothing
  pub later : Plays (club 256 9) own_write_seen
  pub totalled : Plays (club 256 9) totals
  pub total_clashes : Plays (club 256 9) total_overwritten
  pub none_does_not_clash : Plays (club 256 9) total_of_none
  pub all_active : Plays (club 256 99) most_active
  pub browsed : Plays (club 256 99) full_read_list
  pub filled : Plays (club 256 99) full_write_list
  pub refused : Plays (club 256 99) refused_calls
  pub idle : Plays (new_ledger no_limits) set_up_wrongly
