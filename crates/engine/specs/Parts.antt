-- What an engine is made of, and what a slip holds.
use Rattle.std.specs.Prelude.{ℕ}
use Rattle.ledger.specs.Ledger.{Ledger, new_ledger}
use Rattle.versions.specs.Stores.{Store}
use Rattle.validation.specs.Stamps.{Stamps}
use Rattle.transaction_table.specs.declared.table.TransactionTable.{TransactionTable}
use Rattle.engine.specs.declared.engine.Engine.{Engine}
use Rattle.engine.specs.declared.slip.Slip.{Slip}
use Rattle.engine.specs.Fits.{Fits, limits_of}

abbrev pub store_of : {S V : Type 0} → Engine S V → S
store_of e = e.store

abbrev pub validator_of : {S V : Type 0} → Engine S V → V
validator_of e = e.validator

-- its clock and its active transactions
abbrev pub table_of : {S V : Type 0} → Engine S V → TransactionTable
table_of e = e.table

-- the ledger fits the engine
abbrev pub FitsEngine : {S V : Type 0} → (S → Store) → (V → Stamps) → Ledger → Engine S V → Type 0
FitsEngine m p l e = Fits l e.table (m e.store) (p e.validator)

-- the new ledger of its limits fits the engine
abbrev pub FitsNew : {S V : Type 0} → (S → Store) → (V → Stamps) → Engine S V → Type 0
FitsNew m p e = FitsEngine m p (new_ledger (limits_of e.table.last (m e.store) (p e.validator))) e

-- the transaction that a slip gives leave to act in
abbrev pub slip_handle : {K : Type 0} → Slip K → ℕ
slip_handle s = s.handle
