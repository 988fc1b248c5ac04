-- How a run comes through a call file, record by record.
use Rattle.std.specs.Prelude.{◌≡◌, ℕ, ◌^◌, ◌<◌, Bool, true, false, List, ◌++◌, length, Option}
use Rattle.std.specs.Io.KnownBytes.{Appends, Consumes, IsAtEnd}
use Rattle.ledger.specs.declared.Call.{Call}
use Rattle.ledger.specs.Ledger.{Ledger}
use Rattle.versions.specs.Stores.{Store}
use Rattle.validation.specs.Stamps.{Stamps}
use Rattle.engine.specs.declared.engine.Engine.{Engine}
use Rattle.engine.specs.Parts.{FitsEngine}
use Rattle.records.specs.declared.codec.TheConstants.{RECORD}
use Rattle.callfile.specs.Files.{records_of, answer_from}
use Rattle.callfile.specs.Runs.{Answers, AnswersFile, AreFirst}

-- a text grows by the lines of the records rs, from number n on, whatever ledger fits the engine before
abbrev pub GrowsByLines : {S V : Type 0} → (List ℕ → Option Call) → (S → Store) → (V → Stamps) → Engine S V → ℕ → List (List ℕ) → List ℕ → List ℕ → List ℕ → Type 0
GrowsByLines d m p e n rs b text text' = (l : Ledger) → FitsEngine m p l e → text' ≡ text ++ (answer_from d n l b rs).lines

-- a beginning of a text was written, and the rest is the text that is left
abbrev pub HandsOver : List ℕ → List ℕ → Option (List ℕ) → Option (List ℕ) → Type 0
HandsOver text text' old new = (bs : List ℕ) × Appends old new bs × (text ≡ bs ++ text')

-- From e to e' record n was answered, if there is one; is_whole says whether it is a whole one.
pub record Advances {S V : Type 0} (d : List ℕ → Option Call) (m : S → Store) (p : V → Stamps) (e e' : Engine S V) (n : ℕ) (b b' : List ℕ) (left left' : Option (List ℕ)) (text text' : List ℕ) (is_whole : Bool) : Type 0 where
  pub bytes : List ℕ
  pub taken : Consumes left left' bytes
  pub whole : is_whole ≡ true → length bytes ≡ RECORD
  pub short : is_whole ≡ false → (length bytes < RECORD) × IsAtEnd left'
  pub answers : Answers d m p e e' n (records_of bytes) b b'
  pub lines : GrowsByLines d m p e n (records_of bytes) b text text'

-- From e to e' all that was taken was answered, and all that is left was taken, if the numbers sufficed.
pub record GoesThrough {S V : Type 0} (d : List ℕ → Option Call) (m : S → Store) (p : V → Stamps) (e e' : Engine S V) (b b' : List ℕ) (left left' old new : Option (List ℕ)) : Type 0 where
  pub bytes : List ℕ
  pub taken : Consumes left left' bytes
  pub all : length bytes < 2 ^ 64 → IsAtEnd left'
  pub first : AreFirst (records_of bytes) left
  pub file : AnswersFile d m p e e' b b' old new bytes
