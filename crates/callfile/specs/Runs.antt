-- What a run of a call file makes of an engine, a buffer, a reader and a writer.
use Rattle.std.specs.Prelude.{◌≡◌, ℕ, List, ◌++◌, length, take, IfOk, IfSome, Option, Result}
use Rattle.std.specs.Io.{StartsWith}
use Rattle.std.specs.Io.KnownBytes.{Appends, Consumes}
use Rattle.refusals.specs.Results.{result_map_err}
use Rattle.ledger.specs.declared.Call.{Call}
use Rattle.ledger.specs.declared.Done.{Done}
use Rattle.ledger.specs.declared.Fault.{Fault}
use Rattle.ledger.specs.Ledger.{Ledger, Limits}
use Rattle.ledger.specs.History.{Made, after}
use Rattle.versions.specs.Stores.{Store}
use Rattle.validation.specs.Stamps.{Stamps}
use Rattle.engine.specs.declared.engine.Engine.{Engine}
use Rattle.engine.specs.Parts.{FitsEngine}
use Rattle.engine.specs.Steps.{CountsAsAsked, LeadsTo, LeadsLawfullyTo, StaysIdle}
use Rattle.answer_lines.specs.declared.LineFault.{LineFault}
use Rattle.answer_lines.specs.declared.LineFault.TheVariants.{Engine as EngineFault}
use Rattle.callfile.specs.Files.{records_of, record_answer, answer_from}

-- record n has this result, whatever ledger fits the engine before
abbrev pub HasResult : {S V : Type 0} → (List ℕ → Option Call) → (S → Store) → (V → Stamps) → Engine S V → ℕ → List ℕ → List ℕ → Result Done LineFault → Type 0
HasResult d m p e n bytes b r = (l : Ledger) → FitsEngine m p l e → r ≡ (record_answer n l b (d bytes)).result

-- the result is one of an engine's, its refusal carried up whole, so never that of a malformed record; and it tells as many values as the call asks for
abbrev pub CarriesAnswer : Call → Result Done LineFault → Type 0
CarriesAnswer c r = (a : Result Done Fault) × IfOk a (CountsAsAsked c) × (r ≡ result_map_err EngineFault a)

-- From e to e' the records rs were answered, from number n on; b was in the buffer before, b' after. d says the call that a record asks for; m and p are the meanings of the store and of the validator.
pub record Answers {S V : Type 0} (d : List ℕ → Option Call) (m : S → Store) (p : V → Stamps) (e e' : Engine S V) (n : ℕ) (rs : List (List ℕ)) (b b' : List ℕ) : Type 0 where
  -- each ledger that fits the engine tells the buffer, and the ledger afterwards fits the engine afterwards
  pub buffer : (l : Ledger) → FitsEngine m p l e → b' ≡ (answer_from d n l b rs).buffer
  pub ledger : (l : Ledger) → FitsEngine m p l e → FitsEngine m p (answer_from d n l b rs).ledger e'
  -- each history that led to the engine goes on with exactly these calls, leads to the engine afterwards, and is lawful
  pub history : (k : Limits) (ms : List Made) → LeadsTo m p k ms e → LeadsLawfullyTo m p k ((answer_from d n (after k ms) b rs).calls ++ ms) e'
  -- an engine from a refused set-up touches neither store nor validator
  pub idle : StaysIdle e e'

-- known bytes grow by the lines of the records rs, from number n on, whatever ledger fits the engine before
abbrev pub AppendsLines : {S V : Type 0} → (List ℕ → Option Call) → (S → Store) → (V → Stamps) → Engine S V → ℕ → List (List ℕ) → List ℕ → Option (List ℕ) → Option (List ℕ) → Type 0
AppendsLines d m p e n rs b old new = (l : Ledger) → FitsEngine m p l e → Appends old new (answer_from d n l b rs).lines

-- known bytes grow by a beginning of a text
abbrev pub AppendsSome : Option (List ℕ) → Option (List ℕ) → List ℕ → Type 0
AppendsSome old new text = (bs : List ℕ) × Appends old new bs × StartsWith text bs

-- the same of those lines
abbrev pub AppendsSomeLines : {S V : Type 0} → (List ℕ → Option Call) → (S → Store) → (V → Stamps) → Engine S V → ℕ → List (List ℕ) → List ℕ → Option (List ℕ) → Option (List ℕ) → Type 0
AppendsSomeLines d m p e n rs b old new = (l : Ledger) → FitsEngine m p l e → AppendsSome old new (answer_from d n l b rs).lines

-- known bytes lose some at their front
abbrev pub ConsumesSome : Option (List ℕ) → Option (List ℕ) → Type 0
ConsumesSome old new = (bs : List ℕ) × Consumes old new bs

-- these are the first of the records left, where it is known what is left
abbrev pub AreFirst : List (List ℕ) → Option (List ℕ) → Type 0
AreFirst rs left = IfSome left (λ bytes. take (length rs) (records_of bytes) ≡ rs)

-- From e to e' a file was answered; what was written before was old, and is new.
pub record AnswersFile {S V : Type 0} (d : List ℕ → Option Call) (m : S → Store) (p : V → Stamps) (e e' : Engine S V) (b b' : List ℕ) (old new : Option (List ℕ)) (bytes : List ℕ) : Type 0 where
  pub answers : Answers d m p e e' 1 (records_of bytes) b b'
  -- its lines were written, and nothing else
  pub lines : AppendsLines d m p e 1 (records_of bytes) b old new

-- From e to e' the first of the records left, the next of which is number n, were answered, and then an error came.
pub record Breaks {S V : Type 0} (d : List ℕ → Option Call) (m : S → Store) (p : V → Stamps) (e e' : Engine S V) (n : ℕ) (b b' : List ℕ) (left left' : Option (List ℕ)) : Type 0 where
  pub done : List (List ℕ)
  pub first : AreFirst done left
  pub taken : ConsumesSome left left'
  pub answers : Answers d m p e e' n done b b'

-- The same, and what was written grew from old to new by a beginning of their lines.
pub record Stops {S V : Type 0} (d : List ℕ → Option Call) (m : S → Store) (p : V → Stamps) (e e' : Engine S V) (n : ℕ) (b b' : List ℕ) (left left' old new : Option (List ℕ)) : Type 0 where
  pub breaks : Breaks d m p e e' n b b' left left'
  pub lines : AppendsSomeLines d m p e n breaks.done b old new
