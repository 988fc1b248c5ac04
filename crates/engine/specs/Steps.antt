-- The contracts of the calls.
use Rattle.std.specs.Prelude.{◌≡◌, ℕ, List, ◌∷◌, ⊤, Result}
use Rattle.ledger.specs.declared.Call.{Call}
use Rattle.ledger.specs.declared.Fault.{Fault}
use Rattle.ledger.specs.declared.Done.{Done}
use Rattle.ledger.specs.Ledger.{Limits, Ledger}
use Rattle.ledger.specs.Calls.{step}
use Rattle.ledger.specs.History.{Made, call_made, after, IsTold}
use Rattle.ledger.specs.Laws.{IsLawfulHistory}
use Rattle.versions.specs.Stores.{Store, newest}
use Rattle.validation.specs.Stamps.{Stamps}
use Rattle.transaction_table.specs.declared.table.TransactionTable.{TransactionTable}
use Rattle.engine.specs.declared.engine.Engine.{Engine}
use Rattle.engine.specs.Fits.{Fits}
use Rattle.engine.specs.Parts.{FitsEngine}

-- the answer and the buffer are the ledger's, and the ledger after the call fits
pub record FollowsStep (l : Ledger) (c : Call) (b : List ℕ) (a : Result Done Fault) (b' : List ℕ) (t : TransactionTable) (s : Store) (v : Stamps) : Type 0 where
  pub answer : a ≡ (step l c b).answer
  pub buffer : b' ≡ (step l c b).buffer
  pub after : Fits (step l c b).ledger t s v

-- From e to e' a call c was made with the buffer b, answered a, and left b' in the buffer. m and p are the meanings of the store and of the validator.

-- each ledger that fits before the call tells the answer and the buffer, and fits a step further after it
abbrev pub Refines : {S V : Type 0} → (S → Store) → (V → Stamps) → Engine S V → Engine S V → Call → List ℕ → Result Done Fault → List ℕ → Type 0
Refines m p e e' c b a b' = (l : Ledger) → FitsEngine m p l e
    → FollowsStep l c b a b' e'.table (m e'.store) (p e'.validator)

-- the same of a call that is lent no buffer: whatever it is, it is left as it was
abbrev pub RefinesUnlent : {S V : Type 0} → (S → Store) → (V → Stamps) → Engine S V → Engine S V → Call → Result Done Fault → Type 0
RefinesUnlent m p e e' c a = (b : List ℕ) → Refines m p e e' c b a b

-- an engine from a refused set-up touches neither store nor validator, and stays one
abbrev pub StaysIdle : {S V : Type 0} → Engine S V → Engine S V → Type 0
StaysIdle e e' = e.table.last ≡ 0 → (e'.store ≡ e.store) × (e'.validator ≡ e.validator) × (e'.table.last ≡ 0)

-- how many values a call leaves at the front of the buffer
abbrev pub value_count : Call → ℕ
value_count (Call.Read h k n) = n
value_count _ = 0

-- where values are told to be at the front of the buffer, they are as many as the call leaves there
abbrev pub CountsAsAsked : Call → Done → Type 0
CountsAsAsked c (Done.Read n) = n ≡ value_count c
CountsAsAsked c _ = ⊤

-- the history led to the engine
abbrev pub LeadsTo : {S V : Type 0} → (S → Store) → (V → Stamps) → Limits → List Made → Engine S V → Type 0
LeadsTo m p n ms e = IsTold n ms × FitsEngine m p (after n ms) e

-- the values that the store's newest answers
abbrev pub newest_in : Store → ℕ → ℕ
newest_in s k = (newest (s.versions k)).value

-- the history led to the engine, and is lawful
abbrev pub LeadsLawfullyTo : {S V : Type 0} → (S → Store) → (V → Stamps) → Limits → List Made → Engine S V → Type 0
LeadsLawfullyTo m p n ms e = LeadsTo m p n ms e × IsLawfulHistory n ms (newest_in (m e.store))

-- each history that led to the engine before the call leads on, with this call, to the engine after it, and is lawful
abbrev pub GoesOn : {S V : Type 0} → (S → Store) → (V → Stamps) → Engine S V → Engine S V → Call → List ℕ → Result Done Fault → List ℕ → Type 0
GoesOn m p e e' c b a b' = (n : Limits) (ms : List Made) → LeadsTo m p n ms e → LeadsLawfullyTo m p n (call_made c b a b' ∷ ms) e'
