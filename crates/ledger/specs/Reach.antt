-- The ledgers that calls on a new one lead to.
use Rattle.std.specs.Prelude.{ℕ, List}
use Rattle.ledger.specs.declared.Call.{Call}
use Rattle.ledger.specs.Ledger.{Limits, Ledger, new_ledger}
use Rattle.ledger.specs.Calls.{step}

-- a new ledger, and each that a call leads to
pub data IsReached : Ledger → Type 0 where
  new : (n : Limits) → IsReached (new_ledger n)
  next : {l : Ledger} (c : Call) (b : List ℕ) → IsReached l → IsReached (step l c b).ledger
