-- The laws: what the calls mean for those who make them.
use Rattle.std.specs.Prelude.{◌≡◌, ℕ, zero, suc, ◌+◌, ◌-◌, ◌<◌, ◌≤◌, true, false, if◌then◌else◌, not, ◌&&◌, ◌||◌, List, [], ◌∷◌, ◌++◌, map, length, drop, Some, None, Option, Ok, Err, Result, ◌==◌, ◌≢◌, nat_lt}
use Rattle.std.specs.List.{range_with_len}
use Rattle.std.specs.Option.{is_some}
use Rattle.std.specs.Result.{is_ok}
use Rattle.ledger.specs.declared.SummaryKind.{SummaryKind}
use Rattle.ledger.specs.declared.SummaryKind.TheVariants.{Sum, Smallest, NonZero}
use Rattle.ledger.specs.declared.Figure.{Figure}
use Rattle.ledger.specs.declared.Call.{Call}
use Rattle.ledger.specs.declared.Fault.{Fault}
use Rattle.ledger.specs.declared.Fault.TheVariants.{KeyOutside, NoTransaction, ClockSpent, ReadListFull}
use Rattle.ledger.specs.declared.Verdict.TheVariants.{Restart}
use Rattle.ledger.specs.declared.Done.{Done}
use Rattle.ledger.specs.Ledger.{Limits, Transaction, Version, Ledger, Shortage, start_of, found, is_reader, dead, live_count, shortage, newest_value}
use Rattle.ledger.specs.Figures.{figure_of}
use Rattle.ledger.specs.Calls.{step, new_buffer, in_table, joins, read_list_full, seen, reclaimed, stale_read, out_of_ticks}
use Rattle.ledger.specs.Reach.{IsReached}
use Rattle.ledger.specs.Orderly.{IsOrderly}
use Rattle.ledger.specs.History.{Made, call_made, Deed, begins, commits, deed, after, IsTold, operations, saw, is_begin_of, is_end_of, updater_in, standing_in, stands_at, others, asked}
use Rattle.ledger.specs.Serial.{run_reads, table}
use Rattle.ledger.specs.Restarts.{keys_read, first_overwritten, restart_of, full_of}

-- Over a history

-- Serial: every transaction in the order sees what it would see running alone in its place, and newest is what they leave.
pub record IsSerial (n : Limits) (ms : List Made) (newest : ℕ → ℕ) : Type 0 where
  -- who is given a standing at a tick stands there, and no one stands elsewhere
  pub stands : (newer older : List Made) (m : Made) (t h : ℕ)
      → ms ≡ newer ++ (m ∷ older) → standing_in (deed m) ≡ Some (record { tick = t; handle = h }) → stands_at ms t ≡ Some h
  pub within : (t h : ℕ) → stands_at ms t ≡ Some h → (0 < t) × (t ≤ (after n ms).clock)
  -- run on the table as the ticks before leave it, its reads and totals see what they showed their callers
  pub reads : (t h : ℕ) → stands_at ms (suc t) ≡ Some h → run_reads (operations h ms) (table ms t) ≡ saw h ms
  -- after the last tick the table has each key's newest value
  pub newest_is : (k : ℕ) → k < n.keys → newest k ≡ table ms (after n ms).clock k

-- Time: one that ended before another began stands earlier.
abbrev pub KeepsTime : List Made → Type 0
KeepsTime ms = (newer between older : List Made) (e b : Made) (g h s t : ℕ)
    → ms ≡ newer ++ (b ∷ (between ++ (e ∷ older)))
    → is_end_of g (deed e) ≡ true → is_begin_of h (deed b) ≡ true
    → stands_at ms s ≡ Some g → stands_at ms t ≡ Some h → s < t

-- Reclaims: whatever else was reclaimed, every other call is answered alike.
abbrev pub IgnoresReclaims : Limits → List Made → Type 0
IgnoresReclaims n ms = (ns : List Made) → IsTold n ns → asked (others ns) ≡ asked (others ms) → others ns ≡ others ms

-- Restarts: an updater's commit is restarted exactly if another, committed since it began, wrote into the granule of a key that it read.
abbrev pub RestartsIfOverwritten : Limits → List Made → Type 0
RestartsIfOverwritten n ms = (newer older : List Made) (m : Made) (h : ℕ)
    → ms ≡ newer ++ (m ∷ older)
    → m.call ≡ Call.Commit h → is_ok m.answer ≡ true → updater_in h older ≡ true
    → restart_of m.answer ≡ first_overwritten n.granule older h (keys_read (operations h older))

-- the shortage where the versions that are not dead take cells, unless a restart or spent goes before full
abbrev pub live_shortage : Ledger → Transaction → Option Shortage
live_shortage l t =
    if is_some (stale_read l t) || out_of_ticks l.clock l.limits.last then None
    else shortage l.limits.cells (live_count l) (length t.writes)

-- Full: an updater's commit is full only if it must be.
abbrev pub IsFullIfShort : Limits → List Made → Type 0
IsFullIfShort n ms = (newer older : List Made) (m : Made) (h : ℕ) (t : Transaction)
    → ms ≡ newer ++ (m ∷ older)
    → m.call ≡ Call.Commit h → found (after n older).active h ≡ Some t → is_reader t.kind ≡ false
    → full_of m.answer ≡ live_shortage (after n older) t

-- what holds after each call of any list of calls on one new engine
pub record IsLawfulHistory (n : Limits) (ms : List Made) (newest : ℕ → ℕ) : Type 0 where
  pub serial : IsSerial n ms newest
  pub time : KeepsTime ms
  pub reclaims : IgnoresReclaims n ms
  pub restarts : RestartsIfOverwritten n ms
  pub fulls : IsFullIfShort n ms

-- The laws, of every history that the ledger tells

-- every told history is serial, with the newest values at its end
abbrev pub SerialLaw : Type 0
SerialLaw = (n : Limits) (ms : List Made) → IsTold n ms → IsSerial n ms (λ k. newest_value k (after n ms).versions)

-- every told history keeps real time
abbrev pub TimeLaw : Type 0
TimeLaw = (n : Limits) (ms : List Made) → IsTold n ms → KeepsTime ms

-- in every told history reclaims move nothing
abbrev pub ReclaimLaw : Type 0
ReclaimLaw = (n : Limits) (ms : List Made) → IsTold n ms → IgnoresReclaims n ms

-- in every told history restarts are as the history says
abbrev pub RestartLaw : Type 0
RestartLaw = (n : Limits) (ms : List Made) → IsTold n ms → RestartsIfOverwritten n ms

-- in every told history full is said only if it must be
abbrev pub FullLaw : Type 0
FullLaw = (n : Limits) (ms : List Made) → IsTold n ms → IsFullIfShort n ms

-- every told history has all five
abbrev pub Law : Type 0
Law = (n : Limits) (ms : List Made) → IsTold n ms → IsLawfulHistory n ms (λ k. newest_value k (after n ms).versions)

-- Ticks

-- the tick that a deed drew
abbrev pub ticks_in : Deed → List ℕ
ticks_in (begins kind h) = start_of h ∷ []
ticks_in (commits h t) = t ∷ []
ticks_in _ = []

-- every tick drawn, the last first
abbrev pub drawn : List Made → List ℕ
drawn [] = []
drawn (m ∷ ms) = ticks_in (deed m) ++ drawn ms

-- n, n - 1, .. 1
abbrev pub down_from : ℕ → List ℕ
down_from zero = []
down_from (suc n) = suc n ∷ down_from n

-- the begins and the commits of a history draw the ticks 1, 2, .. up to the clock, each once
abbrev pub TickLaw : Type 0
TickLaw = (n : Limits) (ms : List Made) → IsTold n ms → drawn ms ≡ down_from (after n ms).clock

-- One moment

-- a read under a reader's handle, the newest call of the history
abbrev pub read_now : ℕ → ℕ → ℕ → List ℕ → List ℕ → Made
read_now h k c b b' = call_made (Call.Read h k c) b (Ok (Done.Read c)) b'

-- a reader is shown the serial table as it was when the reader began, whatever was committed since
abbrev pub MomentLaw : Type 0
MomentLaw = (n : Limits) (ms : List Made) (h k c : ℕ) (b b' : List ℕ)
    → IsTold n (read_now h k c b b' ∷ ms) → updater_in h ms ≡ false
    → b' ≡ map (table ms (start_of h - 1)) (range_with_len k c) ++ drop c b

-- an accepted total under a handle
abbrev pub total_now : ℕ → ℕ → ℕ → SummaryKind → Figure → List ℕ → List ℕ → Made
total_now h k c s f b b' = call_made (Call.Total h k c s) b (Ok (Done.Total f)) b'

-- and every figure that it is told is a figure of that table
abbrev pub FigureMomentLaw : Type 0
FigureMomentLaw = (n : Limits) (ms : List Made) (h k c : ℕ) (s : SummaryKind) (f : Figure) (b b' : List ℕ)
    → IsTold n (total_now h k c s f b b' ∷ ms) → updater_in h ms ≡ false
    → f ≡ figure_of s k (map (table ms (start_of h - 1)) (range_with_len k c))

-- Totals

-- the answer that is a figure of a range under the handle h, where o has that handle: refused where no one has, where the range is not in the table, and where a full read list lacks it, in this order; else the figure of the values that the transaction sees
abbrev pub total_answer : {X : Type 0} → (List ℕ → X) → Ledger → ℕ → ℕ → ℕ → Option Transaction → Result X Fault
total_answer figure l h k c None = Err (NoTransaction h)
total_answer figure l h k c (Some t) =
    if not (in_table l.limits.keys k c) then Err (KeyOutside k)
    else if joins t c && read_list_full t.reads k c then Err (ReadListFull h)
    else Ok (figure (map (seen l t) (range_with_len k c)))

-- a total leaves the buffer as it was, and the ledger as a read of its range leaves it
pub record IsTotal (l : Ledger) (h k c : ℕ) (s : SummaryKind) (b : List ℕ) : Type 0 where
  pub answer : (step l (Call.Total h k c s) b).answer ≡ total_answer (λ xs. Done.Total (figure_of s k xs)) l h k c (found l.active h)
  pub buffer : (step l (Call.Total h k c s) b).buffer ≡ b
  pub ledger : (step l (Call.Total h k c s) b).ledger ≡ (step l (Call.Read h k c) (new_buffer c)).ledger

-- every total is so
abbrev pub TotalLaw : Type 0
TotalLaw = (l : Ledger) (h k c : ℕ) (s : SummaryKind) (b : List ℕ) → IsTotal l h k c s b

-- the figure of no values
abbrev pub neutral_figure : SummaryKind → Figure
neutral_figure Sum = Figure.Sum 0
neutral_figure Smallest = Figure.Smallest None
neutral_figure NonZero = Figure.NonZero 0

-- a total of no keys from a key of the table, or just behind the last, is accepted under every handle, with the neutral figure
abbrev pub AcceptsNoKeys : Type 0
AcceptsNoKeys = (l : Ledger) (h k : ℕ) (s : SummaryKind) (b : List ℕ) (t : Transaction) → found l.active h ≡ Some t → k ≤ l.limits.keys
    → (step l (Call.Total h k 0 s) b).answer ≡ Ok (Done.Total (neutral_figure s))

-- it joins no read list; struck out, it leaves every other answer as it is, so it is the cause of no restart
abbrev pub JoinsNoKeys : Type 0
JoinsNoKeys = (n : Limits) (newer older : List Made) (h k : ℕ) (s : SummaryKind) (f : Figure) (b b' : List ℕ)
    → IsTold n (newer ++ (total_now h k 0 s f b b' ∷ older))
    → (f ≡ neutral_figure s) × (after n (total_now h k 0 s f b b' ∷ older) ≡ after n older) × IsTold n (newer ++ older)

-- both
abbrev pub NoKeysLaw : Type 0
NoKeysLaw = AcceptsNoKeys × JoinsNoKeys

-- Over the ledgers that calls lead to

-- starts and stamps are distinct and at most the clock, lists keep to their limits, and a removed version is dead
abbrev pub OrderLaw : Type 0
OrderLaw = (l : Ledger) → IsReached l → IsOrderly l

-- what is dead stays dead
abbrev pub DeathLaw : Type 0
DeathLaw = (l : Ledger) → IsReached l → (c : Call) (b : List ℕ) (v : Version)
    → dead l v ≡ true → dead (step l c b).ledger v ≡ true

-- a refused call leaves ledger and buffer as they were
abbrev pub RefusalLaw : Type 0
RefusalLaw = (l : Ledger) (c : Call) (b : List ℕ) (f : Fault)
    → (step l c b).answer ≡ Err f → ((step l c b).ledger ≡ l) × ((step l c b).buffer ≡ b)

-- what a ledger without ticks answers, as that of an engine set up wrongly is
abbrev pub idle_answer : Call → Result Done Fault
idle_answer (Call.Begin kind) = Err (ClockSpent 0)
idle_answer (Call.Read h k n) = Err (NoTransaction h)
idle_answer (Call.Total h k n s) = Err (NoTransaction h)
idle_answer (Call.Write h k x) = Err (NoTransaction h)
idle_answer (Call.Commit h) = Err (NoTransaction h)
idle_answer (Call.Abort h) = Err (NoTransaction h)
idle_answer Call.Reclaim = Ok (Done.Reclaimed 0)

-- without a tick nothing ever begins
abbrev pub IdleLaw : Type 0
IdleLaw = (l : Ledger) → IsReached l → l.limits.last ≡ 0 → (c : Call) (b : List ℕ)
    → ((step l c b).answer ≡ idle_answer c) × ((step l c b).buffer ≡ b) × ((step l c b).ledger.active ≡ []) × ((step l c b).ledger.versions ≡ [])

-- what a version tells of its key, in a cell or not
pub record StampedValue : Type 0 where
  pub stamp : ℕ
  pub value : ℕ

-- the newest version of a key stamped below a tick
abbrev pub newest_below : ℕ → ℕ → List Version → Option StampedValue
newest_below k t [] = None
newest_below k t (v ∷ vs) = if v.key == k && nat_lt v.stamp t then Some (record { stamp = v.stamp; value = v.value }) else newest_below k t vs

-- once every tick below t is drawn, the newest version below t never changes
abbrev pub PastLaw : Type 0
PastLaw = (l : Ledger) → IsReached l → (c : Call) (b : List ℕ) (k t : ℕ)
    → t ≤ l.clock + 1 → newest_below k t (step l c b).ledger.versions ≡ newest_below k t l.versions

-- no verdict depends on the reclaims made, full among them
abbrev pub VerdictLaw : Type 0
VerdictLaw = (l : Ledger) → IsReached l → (h : ℕ) (b : List ℕ)
    → (step (reclaimed l) (Call.Commit h) b).answer ≡ (step l (Call.Commit h) b).answer

-- a restart names a stamp above its transaction's start, of a tick drawn
abbrev pub StampLaw : Type 0
StampLaw = (l : Ledger) → IsReached l → (h k s : ℕ) (b : List ℕ)
    → (step l (Call.Commit h) b).answer ≡ Ok (Done.Ended (Restart k s)) → (start_of h < s) × (s ≤ l.clock)

-- an updater that read nothing is never restarted
abbrev pub BlindLaw : Type 0
BlindLaw = (l : Ledger) → IsReached l → (h k s : ℕ) (b : List ℕ) (t : Transaction)
    → found l.active h ≡ Some t → t.reads ≡ [] → (step l (Call.Commit h) b).answer ≢ Ok (Done.Ended (Restart k s))
