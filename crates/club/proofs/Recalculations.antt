-- Which procedure it is, where the code has tested it.
use Rattle.std.proofs.Common.{◌≡◌, ℕ, true, Some, None, Ok, Option, refl}
use Rattle.std.specs.Option.{is_some}
use Rattle.std.proofs.lemmas.Bool.{false≢true}
use Rattle.ledger.specs.declared.Verdict.{Verdict}
use Rattle.ledger.specs.declared.Verdict.TheVariants.{Restart}
use Rattle.club.specs.declared.said.Recalculation.{Recalculation}
use Rattle.club.specs.declared.said.Said.TheVariants.{AlreadyOpen, Ended}
use Rattle.procedures.specs.Procedures.{pure}
use Rattle.club.specs.Events.{recalculated, redone_if_restarted}

pub stays_open : (k n x : ℕ) (o : Option Recalculation) → is_some o ≡ true → recalculated k n x o ≡ pure (Ok AlreadyOpen, o)
stays_open k n x None h = absurd (false≢true h)
stays_open k n x (Some w) h = refl

pub not_restarted : (w : Recalculation) (v : Verdict) → ((k s : ℕ) → v ≡ Restart k s → ⊥) → redone_if_restarted w v ≡ pure (Ok (Ended v))
not_restarted w (Restart k s) other = absurd (other k s refl)
not_restarted w v other = refl
