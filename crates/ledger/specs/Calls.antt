-- The calls on the ledger: why each is refused, and what an accepted one answers, leaves in the caller's buffer, and makes of the ledger.
use Rattle.std.specs.Prelude.{ℕ, ◌+◌, max, Bool, true, false, if◌then◌else◌, not, ◌&&◌, List, [], ◌∷◌, ◌++◌, map, length, drop, replicate, Some, None, filter, Option, Ok, Err, Result, ◌==◌, nat_le, nat_lt}
use Rattle.std.specs.List.{find, list_any, range_with_len}
use Rattle.std.specs.Option.{is_some, option_map, unwrap_or}
use Rattle.std.specs.Result.{result_and}
use Rattle.refusals.specs.Results.{result_map}
use Rattle.ledger.specs.declared.TheConstants.{MAX_ACTIVE, MAX_READS, MAX_WRITES}
use Rattle.ledger.specs.declared.Kind.{Kind}
use Rattle.ledger.specs.declared.Kind.TheVariants.{Updater}
use Rattle.ledger.specs.declared.Range.{Range}
use Rattle.ledger.specs.declared.Write.{Write}
use Rattle.ledger.specs.declared.Fault.{Fault}
use Rattle.ledger.specs.declared.Fault.TheVariants.{KeyOutside, ShortBuffer, NoTransaction, ReaderWrites, TooManyActive, ClockSpent, ReadListFull, WriteListFull}
use Rattle.ledger.specs.declared.Verdict.{Verdict}
use Rattle.ledger.specs.declared.Verdict.TheVariants.{Closed, Restart, Spent, Full, Committed}
use Rattle.ledger.specs.declared.SummaryKind.{SummaryKind}
use Rattle.ledger.specs.declared.Call.{Call}
use Rattle.ledger.specs.declared.Done.{Done}
use Rattle.ledger.specs.Figures.{figure_of}
use Rattle.ledger.specs.Ledger.{Transaction, Version, Ledger, Shortage, handle_of, moment_of, found, is_reader, trim_tick, dead, present_count, dead_count, shortage, value_below, newest_value, own_write, written}

-- Outcomes

-- what a call answers, what it leaves in the caller's buffer, and the ledger after it
pub record Outcome : Type 0 where
  pub answer : Result Done Fault
  pub buffer : List ℕ
  pub ledger : Ledger

-- what an accepted call does
pub record Effect : Type 0 where
  pub done : Done
  pub buffer : List ℕ
  pub ledger : Ledger

abbrev pub accepted : Effect → Outcome
accepted e = record { answer = Ok e.done; buffer = e.buffer; ledger = e.ledger }

-- a refused call leaves ledger and buffer as they were
abbrev pub refused : Ledger → List ℕ → Fault → Outcome
refused l b f = record { answer = Err f; buffer = b; ledger = l }

-- a call is refused, or it has its effect
abbrev pub outcome : Ledger → List ℕ → Result Effect Fault → Outcome
outcome l b (Ok e) = accepted e
outcome l b (Err f) = refused l b f

-- Transactions

-- the ledger with other active transactions
abbrev pub with_active : Ledger → List Transaction → Ledger
with_active l ts = record l { active = ts }

-- the transaction with this handle is gone
abbrev pub without : List Transaction → ℕ → List Transaction
without ts h = filter (λ t. not (handle_of t == h)) ts

-- the transaction with this handle is changed by f
abbrev pub changed : List Transaction → ℕ → (Transaction → Transaction) → List Transaction
changed ts h f = map (λ u. if handle_of u == h then f u else u) ts

-- this very first key and count
abbrev pub same_range : ℕ → ℕ → Range → Bool
same_range k n r = r.first == k && r.count == n

-- a read list that has the range, once
abbrev pub with_range : List Range → ℕ → ℕ → List Range
with_range rs k n = if list_any (same_range k n) rs then rs else (rs ++ (record { first = k; count = n } ∷ []))

-- only an updater's range of at least one key joins its read list
abbrev pub joins : Transaction → ℕ → Bool
joins t n = not (is_reader t.kind) && nat_lt 0 n

-- the transaction once its read list has the range, if it joins
abbrev pub joined : Transaction → ℕ → ℕ → Transaction
joined t k n = if joins t n then record t { reads = with_range t.reads k n } else t

-- the transaction with the write in its list
abbrev pub wrote : Transaction → ℕ → ℕ → Transaction
wrote t k x = record t { writes = written t.writes k x }

-- the transaction once it has made a call
abbrev pub having_made : Transaction → Call → Transaction
having_made t (Call.Read h k n) = joined t k n
having_made t (Call.Total h k n s) = joined t k n
having_made t (Call.Write h k x) = wrote t k x
having_made t _ = t

-- Checks: why a call is refused, each reason in its turn

-- the clock has reached the last tick
abbrev pub out_of_ticks : ℕ → ℕ → Bool
out_of_ticks clock last = nat_le last clock

-- the keys k, k + 1, .., n of them, are among so many
abbrev pub in_table : ℕ → ℕ → ℕ → Bool
in_table keys k n = nat_le (k + n) keys

-- a range that is new to a full read list
abbrev pub read_list_full : List Range → ℕ → ℕ → Bool
read_list_full rs k n = not (list_any (same_range k n) rs) && nat_le MAX_READS (length rs)

-- a key that is new to a full write list
abbrev pub write_list_full : List Write → ℕ → Bool
write_list_full ws k = not (is_some (own_write k ws)) && nat_le MAX_WRITES (length ws)

-- where so many are active: as many as may be are, then a spent clock
abbrev pub begin_check : ℕ → ℕ → ℕ → Result (Unit {0}) Fault
begin_check active clock last =
    if nat_le MAX_ACTIVE active then Err TooManyActive
    else if out_of_ticks clock last then Err (ClockSpent last)
    else Ok tt

-- n keys from k on, on a table of so many keys, to be read into a buffer of this length
abbrev pub range_check : ℕ → ℕ → ℕ → ℕ → Result (Unit {0}) Fault
range_check keys room k n =
    if not (in_table keys k n) then Err (KeyOutside k)
    else if nat_lt room n then Err (ShortBuffer room)
    else Ok tt

-- the same range, for the read list of t, asked for under the handle h
abbrev pub join_check : ℕ → Transaction → ℕ → ℕ → Result (Unit {0}) Fault
join_check h t k n = if joins t n && read_list_full t.reads k n then Err (ReadListFull h) else Ok tt

-- a read by t: both, in this order
abbrev pub read_check : ℕ → ℕ → ℕ → Transaction → ℕ → ℕ → Result (Unit {0}) Fault
read_check keys room h t k n = result_and (range_check keys room k n) (join_check h t k n)

-- a write by t to the key k
abbrev pub write_check : ℕ → ℕ → Transaction → ℕ → Result (Unit {0}) Fault
write_check keys h t k =
    if is_reader t.kind then Err (ReaderWrites h)
    else if not (in_table keys k 1) then Err (KeyOutside k)
    else if write_list_full t.writes k then Err (WriteListFull h)
    else Ok tt

-- a call by the transaction t; it may always commit or abort, and for a total there is room
abbrev pub transaction_check : ℕ → ℕ → Transaction → Call → Result (Unit {0}) Fault
transaction_check keys room t (Call.Read h k n) = read_check keys room h t k n
transaction_check keys room t (Call.Total h k n s) = read_check keys n h t k n
transaction_check keys room t (Call.Write h k x) = write_check keys h t k
transaction_check keys room t _ = Ok tt

-- the transaction that makes a call under the handle h, if there is one and it may
abbrev pub maker : ℕ → ℕ → ℕ → Call → Option Transaction → Result Transaction Fault
maker keys room h c None = Err (NoTransaction h)
maker keys room h c (Some t) = result_map (λ _. t) (transaction_check keys room t c)

-- the check of a call under the handle h
abbrev pub by_handle : Ledger → List ℕ → ℕ → Call → Result Transaction Fault
by_handle l b h c = maker l.limits.keys (length b) h c (found l.active h)

-- Begin

-- a transaction that has just begun: nothing read, nothing written
abbrev pub fresh : ℕ → Kind → Transaction
fresh s kind = record { start = s; kind = kind; reads = []; writes = [] }

-- the next tick is drawn, and a transaction begins at it
abbrev pub opened : Ledger → Kind → Ledger
opened l kind = record l { clock = l.clock + 1; active = fresh (l.clock + 1) kind ∷ l.active }

-- the next tick is start and handle
abbrev pub begin_effect : Ledger → List ℕ → Kind → Effect
begin_effect l b kind = record { done = Done.Began (l.clock + 1); buffer = b; ledger = opened l kind }

-- Read

-- what a transaction reads at a key: a reader as of its moment, an updater its own write or else the newest value
abbrev pub seen : Ledger → Transaction → ℕ → ℕ
seen l t k =
    if is_reader t.kind then value_below k (moment_of t) l.versions
    else unwrap_or (own_write k t.writes) (newest_value k l.versions)

-- the ledger whose transaction h has made a call
abbrev pub with_call : Ledger → ℕ → Call → Ledger
with_call l h c = with_active l (changed l.active h (λ u. having_made u c))

-- the values go to the front of the buffer
abbrev pub read_effect : Ledger → List ℕ → ℕ → ℕ → ℕ → Transaction → Effect
read_effect l b h k n t = record {
  done = Done.Read n;
  buffer = map (seen l t) (range_with_len k n) ++ drop n b;
  ledger = with_call l h (Call.Read h k n);
}

-- a read under the handle h: refused by its check, or it has its effect
abbrev pub read_result : Ledger → List ℕ → ℕ → ℕ → ℕ → Result Effect Fault
read_result l b h k n = result_map (read_effect l b h k n) (by_handle l b h (Call.Read h k n))

-- Total

-- what a read did, told as one figure of the values that it gave; the caller's buffer is left alone
abbrev pub total_effect : List ℕ → ℕ → SummaryKind → Effect → Effect
total_effect b k s e = record { done = Done.Total (figure_of s k e.buffer); buffer = b; ledger = e.ledger }

-- a buffer of so many places
abbrev pub new_buffer : ℕ → List ℕ
new_buffer n = replicate n 0

-- as a read of the range into a buffer of just so many places
abbrev pub total_result : Ledger → List ℕ → ℕ → ℕ → ℕ → SummaryKind → Result Effect Fault
total_result l b h k n s = result_map (total_effect b k s) (read_result l (new_buffer n) h k n)

-- Write

-- the write joins the write list
abbrev pub write_effect : Ledger → List ℕ → ℕ → ℕ → ℕ → Effect
write_effect l b h k x = record { done = Done.Wrote; buffer = b; ledger = with_call l h (Call.Write h k x) }

-- Reclaim

-- dead versions are removed, and the tick trimmed at rises
abbrev pub reclaimed : Ledger → Ledger
reclaimed l = record l {
  versions = map (λ (v : Version). record v { present = v.present && not (dead l v) }) l.versions;
  trimmed_at = max l.trimmed_at (trim_tick l);
}

-- how many versions are newly marked removed
abbrev pub reclaim_effect : Ledger → List ℕ → Effect
reclaim_effect l b = record { done = Done.Reclaimed (dead_count l); buffer = b; ledger = reclaimed l }

-- Commit

-- a key read whose granule was written since, and the stamp of its granule
pub record StaleRead : Type 0 where
  pub key : ℕ
  pub stamp : ℕ

-- the keys of a read list: its ranges in the order made, the keys of each rising
abbrev pub read_keys : List Range → List ℕ
read_keys [] = []
read_keys (r ∷ rs) = range_with_len r.first r.count ++ read_keys rs

-- the greatest stamp of a version written into the granule of a key; 0 where there is none
abbrev pub granule_stamp : (ℕ → ℕ) → ℕ → List Version → ℕ
granule_stamp g k [] = 0
granule_stamp g k (v ∷ vs) = if g v.key == g k then max v.stamp (granule_stamp g k vs) else granule_stamp g k vs

-- the first of the keys whose granule has a stamp above the start tick s, with that stamp
abbrev pub stale_read_among : (ℕ → ℕ) → List Version → ℕ → List ℕ → Option StaleRead
stale_read_among g vs s ks =
    option_map (λ k. record { key = k; stamp = granule_stamp g k vs }) (find (λ k. nat_lt s (granule_stamp g k vs)) ks)

-- the first stale read of an updater, told from all versions ever committed
abbrev pub stale_read : Ledger → Transaction → Option StaleRead
stale_read l t = stale_read_among l.limits.granule l.versions t.start (read_keys t.reads)

-- the cells that are lacking for so many writes
abbrev pub shortage_in : Ledger → ℕ → Option Shortage
shortage_in l n = shortage l.limits.cells (present_count l) n

-- where cells are lacking, a reclaim goes first
abbrev pub reclaimed_if_short : Ledger → ℕ → Ledger
reclaimed_if_short l n = if is_some (shortage_in l n) then reclaimed l else l

-- the versions that a write list becomes, in its order
abbrev pub stamped : ℕ → List Write → List Version
stamped s ws = map (λ w. record { key = w.key; stamp = s; value = w.value; present = true }) ws

-- the next tick is drawn, and an updater's writes become versions of it
abbrev pub installed : Ledger → Transaction → Ledger
installed l t = record l { clock = l.clock + 1; active = without l.active (handle_of t); versions = stamped (l.clock + 1) t.writes ++ l.versions }

-- the transaction has ended, and nothing else changed
abbrev pub ended : Ledger → ℕ → Ledger
ended l h = with_active l (without l.active h)

abbrev pub full_or_committed : Ledger → Option Shortage → Verdict
full_or_committed l (Some s) = Full s.writes s.free
full_or_committed l None = Committed (l.clock + 1)

-- restart, spent, full, committed: the first that applies
abbrev pub verdict_after : Ledger → Transaction → Option StaleRead → Verdict
verdict_after l t (Some c) = Restart c.key c.stamp
verdict_after l t None =
    if out_of_ticks l.clock l.limits.last then Spent
    else full_or_committed l (shortage_in l (length t.writes))

abbrev pub verdict : Ledger → Transaction → Verdict
verdict l t = verdict_after l t (stale_read l t)

-- the ledger that a verdict leaves: the updater has ended, its writes installed if it is committed
abbrev pub left_by : Ledger → Transaction → Verdict → Ledger
left_by l t (Committed c) = installed l t
left_by l t _ = ended l (handle_of t)

-- an updater's commit has to be judged; any other call that is admitted is answered at once
abbrev pub is_judged : Kind → Call → Bool
is_judged Updater (Call.Commit h) = true
is_judged kind c = false

-- the verdict on an updater, and what it leaves
abbrev pub judged : Ledger → List ℕ → Transaction → Effect
judged l b t =
    let v = verdict l t in
    record { done = Done.Ended v; buffer = b; ledger = left_by l t v }

-- a reader is closed; an updater is judged while it is still active, after a reclaim where cells are lacking
abbrev pub commit_effect : Ledger → List ℕ → ℕ → Transaction → Effect
commit_effect l b h t =
    if is_judged t.kind (Call.Commit h) then judged (reclaimed_if_short l (length t.writes)) b t
    else record { done = Done.Ended Closed; buffer = b; ledger = ended l h }

-- Abort

abbrev pub abort_effect : Ledger → List ℕ → ℕ → Effect
abort_effect l b h = record { done = Done.Aborted; buffer = b; ledger = ended l h }

-- Any call

-- each call: what it does once its check is passed
abbrev pub effect_of : Ledger → Call → List ℕ → Result Effect Fault
effect_of l (Call.Begin kind) b = result_map (λ _. begin_effect l b kind) (begin_check (length l.active) l.clock l.limits.last)
effect_of l (Call.Read h k n) b = read_result l b h k n
effect_of l (Call.Total h k n s) b = total_result l b h k n s
effect_of l (Call.Write h k x) b = result_map (λ _. write_effect l b h k x) (by_handle l b h (Call.Write h k x))
effect_of l (Call.Commit h) b = result_map (commit_effect l b h) (by_handle l b h (Call.Commit h))
effect_of l (Call.Abort h) b = result_map (λ _. abort_effect l b h) (by_handle l b h (Call.Abort h))
effect_of l Call.Reclaim b = Ok (reclaim_effect l b)

abbrev pub step : Ledger → Call → List ℕ → Outcome
step l c b = outcome l b (effect_of l c b)
