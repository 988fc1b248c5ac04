-- What the programs that answer call files write.
use Rattle.std.specs.Prelude.{ℕ, ◌^◌, ◌<◌, List, length, replicate, IfSome, Option}
use Rattle.std.specs.Io.KnownBytes.{Appends, Consumes}
use Rattle.ledger.specs.declared.Call.{Call}
use Rattle.ledger.specs.Ledger.{Limits, new_ledger}
use Rattle.versions.specs.Stores.{Store}
use Rattle.validation.specs.Stamps.{Stamps}
use Rattle.engine.specs.Fits.{limits_of}
use Rattle.engine.specs.SetUp.{last_of}
use Rattle.records.specs.Format.{decoded}
use Rattle.callfile.specs.Files.{file_answer}
use Rattle.callfile.specs.Runs.{AppendsSome}

-- 64 keys, each its own granule, 256 cells, and the greatest last tick; the sizes that the programs lend are held to these digits
abbrev pub program_limits : Limits
program_limits = record { keys = 64; cells = 256; last = 4294967294; granule = λ k. k }

-- the lines that answer a file, from nothing; every read is lent 64 places, all 0 at first
abbrev pub program_lines : List ℕ → List ℕ
program_lines bytes = (file_answer decoded (new_ledger program_limits) (replicate 64 0) bytes).lines

-- What a program does to a reader and a writer: left is what the reader has left, old what the writer holds before, new afterwards.

-- where it is known which bytes are left, and the numbers of the records suffice: their lines are written
abbrev pub AnswersAll : Option (List ℕ) → Option (List ℕ) → Option (List ℕ) → Type 0
AnswersAll left old new = IfSome left (λ bytes. length bytes < 2 ^ 64 → Appends old new (program_lines bytes))

-- of any reader: the lines of what was taken are written; left' is what is left then
abbrev pub AnswersTaken : Option (List ℕ) → Option (List ℕ) → Option (List ℕ) → Option (List ℕ) → Type 0
AnswersTaken left left' old new = (bytes : List ℕ) × Consumes left left' bytes × Appends old new (program_lines bytes)

-- a beginning of the lines is written
abbrev pub AnswersSome : Option (List ℕ) → Option (List ℕ) → Option (List ℕ) → Type 0
AnswersSome left old new = IfSome left (λ bytes. AppendsSome old new (program_lines bytes))

-- the lines that answer a file, of which d says the calls, on an engine made of what means this, with this last tick; every read is lent so many places, all 0 at first
abbrev pub lines_over : (List ℕ → Option Call) → ℕ → Store → Stamps → ℕ → List ℕ → List ℕ
lines_over d last s v places bytes = (file_answer d (new_ledger (limits_of (last_of last s v) s v)) (replicate places 0) bytes).lines
