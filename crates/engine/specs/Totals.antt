-- What a total answers, of whichever kind of summary it is.
use Rattle.std.specs.Prelude.{◌≡◌, ℕ, ◌+◌, List, map, Some, IfOk, Result}
use Rattle.std.specs.List.{range_with_len}
use Rattle.ledger.specs.declared.Call.TheVariants.{Read}
use Rattle.ledger.specs.declared.Fault.{Fault}
use Rattle.ledger.specs.Ledger.{Transaction, Ledger, found}
use Rattle.ledger.specs.Calls.{step, new_buffer, seen}
use Rattle.ledger.specs.Laws.{total_answer}
use Rattle.versions.specs.Stores.{Store}
use Rattle.validation.specs.Stamps.{Stamps}
use Rattle.transaction_table.specs.declared.table.TransactionTable.{TransactionTable}
use Rattle.engine.specs.declared.engine.Engine.{Engine}
use Rattle.engine.specs.Fits.{Fits}
use Rattle.engine.specs.Parts.{FitsEngine}

-- the answer is the figure of the values that the transaction h sees at the n keys from k on, or refused as their read is; and the ledger after that read, into a buffer of just so many places, fits
pub record FollowsRead {M : Type 0} (l : Ledger) (h k n : ℕ) (figure : List ℕ → M) (a : Result M Fault) (t : TransactionTable) (s : Store) (v : Stamps) : Type 0 where
  pub answer : a ≡ total_answer figure l h k n (found l.active h)
  pub after : Fits (step l (Read h k n) (new_buffer n)).ledger t s v

-- From e to e' a figure was told of n keys from k on under the handle h: so each ledger that fits before tells it, and fits after. m and p are the meanings of the store and of the validator.
abbrev pub TotalsRead : {S V M : Type 0} → (S → Store) → (V → Stamps) → Engine S V → Engine S V → ℕ → ℕ → ℕ → (List ℕ → M) → Result M Fault → Type 0
TotalsRead m p e e' h k n figure a = (l : Ledger) → FitsEngine m p l e → FollowsRead l h k n figure a e'.table (m e'.store) (p e'.validator)

-- cut in two anywhere, the n keys from k on have the join of what the halves have
abbrev pub CutsAnywhere : {M : Type 0} → (M → M → M) → (ℕ → ℕ → M) → ℕ → ℕ → M → Type 0
CutsAnywhere join of k n x = (i j : ℕ) → i + j ≡ n → x ≡ join (of k i) (of (k + i) j)

-- each ledger that fits tells that the figure of the n keys from k on, cut in two anywhere, is the join of the halves' figures
abbrev pub HalvesJoin : {S V M : Type 0} → (S → Store) → (V → Stamps) → Engine S V → (M → M → M) → (ℕ → List ℕ → M) → ℕ → ℕ → ℕ → Result M Fault → Type 0
HalvesJoin m p e join figure h k n a = (l : Ledger) (t : Transaction) → FitsEngine m p l e → found l.active h ≡ Some t
    → IfOk a (CutsAnywhere join (λ j i. figure j (map (seen l t) (range_with_len j i))) k n)
