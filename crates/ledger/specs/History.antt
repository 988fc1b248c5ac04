-- Histories: the calls made on one new engine, and what can be told from the calls, the answers and the buffers alone.
use Rattle.std.specs.Prelude.{◌≡◌, ℕ, Bool, true, false, if◌then◌else◌, not, ◌||◌, List, [], ◌∷◌, ◌++◌, map, take, Some, None, filter, Option, Ok, Err, Result, ◌==◌}
use Rattle.ledger.specs.declared.Kind.{Kind}
use Rattle.ledger.specs.declared.Kind.TheVariants.{Reader, Updater}
use Rattle.ledger.specs.declared.Fault.{Fault}
use Rattle.ledger.specs.declared.Verdict.TheVariants.{Committed}
use Rattle.ledger.specs.declared.SummaryKind.{SummaryKind}
use Rattle.ledger.specs.declared.Figure.{Figure}
use Rattle.ledger.specs.declared.Call.{Call}
use Rattle.ledger.specs.declared.Done.{Done}
use Rattle.ledger.specs.Ledger.{Limits, Ledger, new_ledger, start_of}
use Rattle.ledger.specs.Figures.{figure_of}
use Rattle.ledger.specs.Calls.{step}

-- one call made: the caller's buffer before it, its answer, and the buffer after it
pub record Made : Type 0 where
  pub call : Call
  pub given : List ℕ
  pub answer : Result Done Fault
  pub left : List ℕ

abbrev pub call_made : Call → List ℕ → Result Done Fault → List ℕ → Made
call_made c b a b' = record { call = c; given = b; answer = a; left = b' }

-- A history is a list of calls made, the newest first.

-- the ledger after more calls, the newest first
abbrev pub after_more : Ledger → List Made → Ledger
after_more l [] = l
after_more l (m ∷ ms) = (step (after_more l ms) m.call m.given).ledger

-- the ledger after a history
abbrev pub after : Limits → List Made → Ledger
after n ms = after_more (new_ledger n) ms

-- every answer and every buffer in the history is the ledger's
abbrev pub IsTold : Limits → List Made → Type 0
IsTold n [] = Unit {0}
IsTold n (m ∷ ms) = (m.answer ≡ (step (after n ms) m.call m.given).answer) × (m.left ≡ (step (after n ms) m.call m.given).buffer) × IsTold n ms

-- What a call did

-- how a range is shown: each of its values, or one figure of them
pub data Showing : Type 0 where
  in_full : Showing
  as_figure : SummaryKind → Showing

-- what is seen of a range
pub data Sight : Type 0 where
  seen_values : List ℕ → Sight
  seen_figure : Figure → Sight

-- what is seen of these values, which stand at the keys k, k + 1, ..
abbrev pub sight_of : Showing → ℕ → List ℕ → Sight
sight_of in_full k xs = seen_values xs
sight_of (as_figure s) k xs = seen_figure (figure_of s k xs)

-- what is done by a call
pub data Deed : Type 0 where
  -- a transaction of this kind began, with this handle
  begins : Kind → ℕ → Deed
  -- the transaction with this handle read a range of keys, its first and how many, was shown it so, and saw this
  reads : ℕ → ℕ → ℕ → Showing → Sight → Deed
  -- the transaction with this handle set a key to a value
  sets : ℕ → ℕ → ℕ → Deed
  -- the updater with this handle was committed at this tick
  commits : ℕ → ℕ → Deed
  -- the transaction with this handle ended otherwise
  ends : ℕ → Deed
  -- none of these
  rests : Deed

abbrev pub begin_deed : Kind → Done → Deed
begin_deed kind (Done.Began h) = begins kind h
begin_deed kind _ = rests

-- a total is a read that sees a figure
abbrev pub total_deed : ℕ → ℕ → ℕ → SummaryKind → Done → Deed
total_deed h k n s (Done.Total f) = reads h k n (as_figure s) (seen_figure f)
total_deed h k n s _ = rests

abbrev pub commit_deed : ℕ → Done → Deed
commit_deed h (Done.Ended (Committed t)) = commits h t
commit_deed h _ = ends h

-- what an accepted call did, with what it left in the buffer
abbrev pub accepted_deed : Call → Done → List ℕ → Deed
accepted_deed (Call.Begin kind) d b = begin_deed kind d
accepted_deed (Call.Read h k n) d b = reads h k n in_full (seen_values (take n b))
accepted_deed (Call.Total h k n s) d b = total_deed h k n s d
accepted_deed (Call.Write h k x) d b = sets h k x
accepted_deed (Call.Commit h) d b = commit_deed h d
accepted_deed (Call.Abort h) d b = ends h
accepted_deed Call.Reclaim d b = rests

-- a refused call did nothing
abbrev pub deed_of : Call → Result Done Fault → List ℕ → Deed
deed_of c (Ok d) b = accepted_deed c d b
deed_of c (Err f) b = rests

abbrev pub deed : Made → Deed
deed m = deed_of m.call m.answer m.left

-- What a transaction did and saw

-- a read of a range of keys, shown so, or a write
pub data Operation : Type 0 where
  read_range : ℕ → ℕ → Showing → Operation
  write_key : ℕ → ℕ → Operation

-- the one thing where the test holds, and else nothing
abbrev pub when : {X : Type 0} → Bool → X → List X
when b x = if b then x ∷ [] else []

-- the operation of the transaction with this handle that a deed is
abbrev pub operation_in : ℕ → Deed → List Operation
operation_in h (reads g k n how what) = when (g == h) (read_range k n how)
operation_in h (sets g k x) = when (g == h) (write_key k x)
operation_in h _ = []

-- the reads and writes of the transaction h, in call order
abbrev pub operations : ℕ → List Made → List Operation
operations h [] = []
operations h (m ∷ ms) = operations h ms ++ operation_in h (deed m)

-- what the transaction with this handle saw by a deed
abbrev pub seen_in : ℕ → Deed → List Sight
seen_in h (reads g k n how what) = when (g == h) what
seen_in h _ = []

-- what its reads and totals showed its callers, in call order
abbrev pub saw : ℕ → List Made → List Sight
saw h [] = []
saw h (m ∷ ms) = saw h ms ++ seen_in h (deed m)

-- When a transaction began and ended

-- the transaction h began
abbrev pub is_begin_of : ℕ → Deed → Bool
is_begin_of h (begins kind g) = g == h
is_begin_of h _ = false

-- the updater h began
abbrev pub is_updater_begin : ℕ → Deed → Bool
is_updater_begin h (begins Updater g) = g == h
is_updater_begin h _ = false

-- the transaction h ended
abbrev pub is_end_of : ℕ → Deed → Bool
is_end_of h (commits g t) = g == h
is_end_of h (ends g) = g == h
is_end_of h _ = false

-- the transaction h began as an updater
abbrev pub updater_in : ℕ → List Made → Bool
updater_in h [] = false
updater_in h (m ∷ ms) = is_updater_begin h (deed m) || updater_in h ms

-- The serial order: a reader stands at its start tick, an updater that was committed at that tick

-- a tick, and the handle of who stands there
pub record Standing : Type 0 where
  pub tick : ℕ
  pub handle : ℕ

-- the standing that a deed gives; a reader stands at its start
abbrev pub standing_in : Deed → Option Standing
standing_in (begins Reader h) = Some (record { tick = start_of h; handle = h })
standing_in (commits h t) = Some (record { tick = t; handle = h })
standing_in _ = None

-- the handle of who stands at the tick, or else what the rest says
abbrev pub at_tick : ℕ → Option Standing → Option ℕ → Option ℕ
at_tick t None rest = rest
at_tick t (Some p) rest = if p.tick == t then Some p.handle else rest

-- the handle of the transaction that stands at a tick
abbrev pub stands_at : List Made → ℕ → Option ℕ
stands_at [] t = None
stands_at (m ∷ ms) t = at_tick t (standing_in (deed m)) (stands_at ms t)

-- Reclaims

-- a reclaim, and no other call
abbrev pub is_reclaim : Call → Bool
is_reclaim Call.Reclaim = true
is_reclaim _ = false

-- the history with every reclaim struck out
abbrev pub others : List Made → List Made
others ms = filter (λ m. not (is_reclaim m.call)) ms

-- what the callers asked: the calls with the buffers lent
abbrev pub asked : List Made → List (Call × List ℕ)
asked ms = map (λ m. (m.call, m.given)) ms
