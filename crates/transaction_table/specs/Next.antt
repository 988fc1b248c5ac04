-- What a record answers to a call of its transaction.
use Rattle.std.specs.Prelude.{ℕ, if◌then◌else◌, Result}
use Rattle.refusals.specs.Results.{result_map}
use Rattle.ledger.specs.declared.Call.{Call}
use Rattle.ledger.specs.declared.Fault.{Fault}
use Rattle.ledger.specs.Ledger.{Transaction}
use Rattle.ledger.specs.Calls.{transaction_check, is_judged}
use Rattle.transaction_table.specs.declared.record.Next.{Next}
use Rattle.transaction_table.specs.declared.record.Next.TheVariants.{Answer, Judge}

-- what is left to do for an accepted call
abbrev pub next_of : Transaction → Call → Next
next_of t c = if is_judged t.kind c then Judge else Answer

-- the ledger's check, and what is left to do once it is passed
abbrev pub take_answer : ℕ → ℕ → Transaction → Call → Result Next Fault
take_answer keys room t c = result_map (λ _. next_of t c) (transaction_check keys room t c)
