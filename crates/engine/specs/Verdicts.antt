-- What the parts of a commit tell of each ledger that fits.
use Rattle.std.specs.Prelude.{◌≡◌, ℕ, ◌<◌, false, List, Some, Ok}
use Rattle.ledger.specs.declared.Verdict.{Verdict}
use Rattle.ledger.specs.declared.Call.TheVariants.{Commit}
use Rattle.ledger.specs.declared.Done.TheVariants.{Ended}
use Rattle.ledger.specs.Ledger.{Transaction, Ledger, handle_of, found, is_reader}
use Rattle.ledger.specs.Calls.{Outcome, step, reclaimed_if_short, without}
use Rattle.versions.specs.Stores.{Store}
use Rattle.validation.specs.Stamps.{Stamps}
use Rattle.transaction_table.specs.declared.record.Record.{Record}
use Rattle.transaction_table.specs.declared.table.TransactionTable.{TransactionTable}
use Rattle.engine.specs.declared.engine.Engine.{Engine}
use Rattle.transaction_table.specs.View.{view}
use Rattle.engine.specs.Fits.{limits_of, Holds}
use Rattle.engine.specs.Parts.{FitsEngine}

-- From e to e' a part of a commit was done. m and p are the meanings of the store and of the validator.

abbrev pub ReclaimsIfShort : {S V : Type 0} → (S → Store) → (V → Stamps) → Engine S V → Engine S V → ℕ → Type 0
ReclaimsIfShort m p e e' n = (l : Ledger) → 0 < e.table.last → FitsEngine m p l e
    → FitsEngine m p (reclaimed_if_short l n) e'

-- the verdict is that of the outcome, and but for the record, which is still taken, the outcome's ledger fits; ts are its transactions
pub record FitsButForRecord (o : Outcome) (b : List ℕ) (ts : List Transaction) (verdict : Verdict) (t t' : TransactionTable) (s : Store) (v : Stamps) : Type 0 where
  pub answer : Ok (Ended verdict) ≡ o.answer
  pub buffer : b ≡ o.buffer
  pub clock : o.ledger.clock ≡ t'.clock
  pub last : t'.last ≡ t.last
  pub records : t'.records ≡ t.records
  pub limits : o.ledger.limits ≡ limits_of t'.last s v
  pub active : o.ledger.active ≡ ts
  pub holds : Holds o.ledger s v

-- each ledger that fits, and has the updater of the record, tells its verdict and what comes of it
abbrev pub Judges : {S V : Type 0} → (S → Store) → (V → Stamps) → Engine S V → Engine S V → Record → Verdict → Type 0
Judges m p e e' r verdict =
    (l : Ledger) (b : List ℕ)
    → FitsEngine m p l e
    → found l.active (handle_of (view r)) ≡ Some (view r)
    → is_reader (view r).kind ≡ false
    → FitsButForRecord (step l (Commit (handle_of (view r))) b) b (without l.active (handle_of (view r))) verdict e.table e'.table (m e'.store) (p e'.validator)
