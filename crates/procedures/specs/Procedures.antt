-- Procedures: what is done on a ledger by calls, one after another, and when an engine carried one out.
use Rattle.std.specs.Prelude.{◌≡◌, ℕ, List, [], ◌∷◌, ◌++◌, Ok, Err, Result}
use Rattle.std.specs.Result.{result_unwrap_or}
use Rattle.refusals.specs.Results.{result_map}
use Rattle.ledger.specs.declared.Kind.{Kind}
use Rattle.ledger.specs.declared.Call.{Call}
use Rattle.ledger.specs.declared.Call.TheVariants.{Begin, Read, Total, Write, Commit, Abort, Reclaim}
use Rattle.ledger.specs.declared.Fault.{Fault}
use Rattle.ledger.specs.declared.Verdict.{Verdict}
use Rattle.ledger.specs.declared.Verdict.TheVariants.{Closed}
use Rattle.ledger.specs.declared.Done.{Done}
use Rattle.ledger.specs.declared.Done.TheVariants.{Began, Total as TotalDone, Ended, Reclaimed}
use Rattle.ledger.specs.declared.Figure.{Figure}
use Rattle.ledger.specs.declared.SummaryKind.{SummaryKind}
use Rattle.ledger.specs.Ledger.{Limits, Ledger}
use Rattle.ledger.specs.Calls.{step}
use Rattle.ledger.specs.History.{Made, call_made, after_more, after}
use Rattle.versions.specs.Stores.{Store}
use Rattle.validation.specs.Stamps.{Stamps}
use Rattle.engine.specs.declared.engine.Engine.{Engine}
use Rattle.engine.specs.Parts.{FitsEngine}
use Rattle.engine.specs.Steps.{LeadsTo, LeadsLawfullyTo, StaysIdle}

-- what is answered, and the calls made for it, the newest first: the ledger afterwards is the one that they lead to
pub record Performance (X : Type 0) : Type 0 where
  pub answer : X
  pub calls : List Made

-- a procedure tells its run on each ledger
abbrev pub Procedure : Type 0 → Type 0
Procedure X = Ledger → Performance X

-- no call
unfoldable pub pure : {X : Type 0} → X → Procedure X
pure x l = record { answer = x; calls = [] }

-- one procedure, and then the one that its answer asks for, on the ledger after the first
infixl 10 ◌>>=◌
unfoldable pub ◌>>=◌ : {X Y : Type 0} → Procedure X → (X → Procedure Y) → Procedure Y
◌>>=◌ f g l =
    let first = f l in
    let second = g first.answer (after_more l first.calls) in
    record { answer = second.answer; calls = second.calls ++ first.calls }

-- One call

-- a call that is lent a buffer: what f tells of what it did or why it is refused, and what is left there
unfoldable pub lent_call : {X : Type 0} → Call → List ℕ → (Done → X)
    → Procedure (Result X Fault × List ℕ)
lent_call c b f l =
    let o = step l c b in
    record {
      answer = (result_map f o.answer, o.buffer);
      calls = call_made c b o.answer o.buffer ∷ [];
    }

-- a call that is lent none
abbrev pub unlent_call : {X : Type 0} → Call → (Done → X) → Procedure (Result X Fault)
unlent_call c f = do
  o ← lent_call c [] f
  pure o.0

abbrev pub handle_in : Done → ℕ
handle_in (Began h) = h
handle_in _ = 0

-- the figure that a total told
abbrev pub figure_in : Done → Figure
figure_in (TotalDone f) = f
figure_in _ = Figure.Sum 0

abbrev pub verdict_in : Done → Verdict
verdict_in (Ended v) = v
verdict_in _ = Closed

abbrev pub count_in : Done → ℕ
count_in (Reclaimed n) = n
count_in _ = 0

abbrev pub begin : Kind → Procedure (Result ℕ Fault)
begin kind = unlent_call (Begin kind) handle_in

abbrev pub read : ℕ → ℕ → ℕ → List ℕ → Procedure (Result (Unit {0}) Fault × List ℕ)
read h k n b = lent_call (Read h k n) b (λ _. tt)

-- a figure of the values of n keys from k on, under h
abbrev pub total : ℕ → ℕ → ℕ → SummaryKind → Procedure (Result Figure Fault)
total h k n s = unlent_call (Total h k n s) figure_in

abbrev pub write : ℕ → ℕ → ℕ → Procedure (Result (Unit {0}) Fault)
write h k x = unlent_call (Write h k x) (λ _. tt)

abbrev pub commit : ℕ → Procedure (Result Verdict Fault)
commit h = unlent_call (Commit h) verdict_in

abbrev pub abort : ℕ → Procedure (Result (Unit {0}) Fault)
abort h = unlent_call (Abort h) (λ _. tt)

-- a reclaim is never refused
abbrev pub reclaim : Procedure ℕ
reclaim = do
  removed ← unlent_call Reclaim count_in
  pure (result_unwrap_or removed 0)

-- More than one call

-- a refusal is the answer, and a value is gone on with
abbrev pub and_then : {X Y : Type 0} → Result X Fault → (X → Procedure (Result Y Fault)) → Procedure (Result Y Fault)
and_then (Ok x) f = f x
and_then (Err e) f = pure (Err e)

-- where a call under h is refused, h is aborted, and the refusal is the answer
abbrev pub or_abort : {X : Type 0} → ℕ → Result (Unit {0}) Fault → Procedure (Result X Fault) → Procedure (Result X Fault)
or_abort h (Ok u) f = f
or_abort h (Err e) f = do
  _ ← abort h
  pure (Err e)

-- Procedures on an engine; m and p are the meanings of the store and of the validator.

-- from e to e' the procedure was carried out, and answered x
pub record Performs {S V X : Type 0} (m : S → Store) (p : V → Stamps) (e e' : Engine S V) (f : Procedure X) (x : X) : Type 0 where
  -- each ledger that fits before tells the answer, and fits afterwards with the calls
  pub answer : (l : Ledger) → FitsEngine m p l e → x ≡ (f l).answer
  pub ledger : (l : Ledger) → FitsEngine m p l e → FitsEngine m p (after_more l (f l).calls) e'
  -- each history that led to the engine before goes on with the calls, leads to the engine afterwards, and is lawful
  pub history : (n : Limits) (ms : List Made) → LeadsTo m p n ms e → LeadsLawfullyTo m p n ((f (after n ms)).calls ++ ms) e'
  -- an engine from a refused set-up touches neither store nor validator
  pub idle : StaysIdle e e'
