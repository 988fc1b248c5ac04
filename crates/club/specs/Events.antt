-- What each event of an afternoon does, as a procedure: what is said, and the recalculation that stays open.
use Rattle.std.specs.Prelude.{ℕ, Some, None, Option, Ok, Err, IfOk, Result}
use Rattle.std.specs.Bool.{⊤}
use Rattle.refusals.specs.Results.{result_map, result_map_err}
use Rattle.ledger.specs.declared.Kind.TheVariants.{Reader}
use Rattle.ledger.specs.declared.Fault.{Fault}
use Rattle.ledger.specs.declared.Verdict.{Verdict}
use Rattle.ledger.specs.declared.Verdict.TheVariants.{Restart}
use Rattle.versions.specs.Stores.{Store}
use Rattle.validation.specs.Stamps.{Stamps}
use Rattle.engine.specs.declared.engine.Engine.{Engine}
use Rattle.answer_lines.specs.declared.LineFault.{LineFault}
use Rattle.answer_lines.specs.declared.LineFault.TheVariants.{Malformed, Engine as InEngine}
use Rattle.club.specs.declared.desk.Desk.{Desk}
use Rattle.club.specs.declared.event.Event.{Event}
use Rattle.club.specs.declared.event.Event.TheVariants.{Card, Correction, Recalculation as ToRecalculate, Finish, List as ToList, Figures as ToFigures, Report, Show, ShowFigures, Close, CleanUp}
use Rattle.club.specs.declared.said.Recalculation.{Recalculation}
use Rattle.club.specs.declared.said.Said.{Said}
use Rattle.club.specs.declared.said.Said.TheVariants.{Card as SaidCard, Recalculation as SaidOpen, AlreadyOpen, NoneOpen, Ended as SaidEnded, Restarted, Report as SaidReport, Removed}
use Rattle.club.specs.Moments.{club_in, figures_at, ShowsNow, ShowsOpening}
use Rattle.procedures.specs.Procedures.{Procedure, pure, ◌>>=◌, begin, commit, reclaim, and_then}
use Rattle.procedures.specs.Updates.{commit_with_write}
use Rattle.club.specs.Transactions.{posted, corrected, worked_out, redone, listed, report_shown, figures_listed, figures_shown}

-- the engine of a desk, and the recalculation that is open there
abbrev pub engine_of : {S V : Type 0} → Desk S V → Engine S V
engine_of d = d.engine

abbrev pub pending_of : {S V : Type 0} → Desk S V → Option Recalculation
pending_of d = d.pending

-- a recalculation that was worked out is left open
abbrev pub left_open : Result Recalculation Fault → Result Said Fault × Option Recalculation
left_open (Ok w) = (Ok (SaidOpen w), Some w)
left_open (Err e) = (Err e, None)

-- Work a recalculation out and leave it open, unless one is open already.
abbrev pub recalculated : ℕ → ℕ → ℕ → Option Recalculation → Procedure (Result Said Fault × Option Recalculation)
recalculated k n x (Some w) = pure (Ok AlreadyOpen, Some w)
recalculated k n x None = do
  worked ← worked_out k n x
  pure (left_open worked)

-- one that is restarted is done again
abbrev pub redone_if_restarted : Recalculation → Verdict → Procedure (Result Said Fault)
redone_if_restarted w (Restart k s) = do
  again ← redone w
  pure (Ok (Restarted k s again))
redone_if_restarted w verdict = pure (Ok (SaidEnded verdict))

-- Finish the recalculation that is open.
abbrev pub work_finished : Option Recalculation → Procedure (Result Said Fault)
work_finished None = pure (Ok NoneOpen)
work_finished (Some w) = do
  end ← commit_with_write w.handle w.index w.value
  and_then end (redone_if_restarted w)

-- what an event does where w is open
abbrev pub acted : Event → Option Recalculation → Procedure (Result Said Fault × Option Recalculation)
acted (Card k x) w = do end ← posted k x; pure (Ok (SaidCard k x end), w)
acted (Correction k x) w = do r ← corrected k x; pure (r, w)
acted (ToRecalculate k n x) w = recalculated k n x w
acted Finish w = do r ← work_finished w; pure (r, None)
acted ToList w = do r ← listed; pure (r, w)
acted (ToFigures k n) w = do r ← figures_listed k n; pure (r, w)
acted Report w = do h ← begin Reader; pure (result_map SaidReport h, w)
acted (Show h) w = do r ← report_shown h; pure (r, w)
acted (ShowFigures h k n) w = do r ← figures_shown h k n; pure (r, w)
acted (Close h) w = do end ← commit h; pure (result_map SaidEnded end, w)
acted CleanUp w = do n ← reclaim; pure (Ok (Removed n), w)

-- what the line of this number does where w is open: what its event does, a fault of the engine carried up whole; a line that tells of none is refused
abbrev pub answered : ℕ → Option Recalculation → Option Event → Procedure (Result Said LineFault × Option Recalculation)
answered number w None = pure (Err (Malformed number), w)
answered number w (Some e) = do
  r ← acted e w
  pure (result_map_err InEngine r.0, r.1)

-- what stays open behind an event, where w was open and this was said: a recalculation that was worked out, none once one is finished, and else w
abbrev pub pending_after : Event → Option Recalculation → Option Said → Option Recalculation
pending_after (ToRecalculate k n x) w (Some (SaidOpen v)) = Some v
pending_after Finish w s = None
pending_after event w s = w

-- a desk where no recalculation is open
abbrev pub new_desk : {S V : Type 0} → Engine S V → Desk S V
new_desk e = record { engine = e; pending = None }

-- what is shown: a list and figures the club as it is now, a report the club as it was when the report was opened
abbrev pub Shows : {S V F : Type 0} → (S → Store) → (V → Stamps) → Engine S V → Event → Result Said F → Type 0
Shows m p e ToList r = IfOk r (ShowsNow m p e club_in)
Shows m p e (ToFigures k n) r = IfOk r (ShowsNow m p e (figures_at k n))
Shows m p e (Show h) r = IfOk r (ShowsOpening m p e h club_in)
Shows m p e (ShowFigures h k n) r = IfOk r (ShowsOpening m p e h (figures_at k n))
Shows m p e event r = ⊤
