-- How an updater begins with a read and is committed with a write.
use Rattle.std.specs.Prelude.{ℕ, List, Ok, Err, Result}
use Rattle.ledger.specs.declared.Kind.TheVariants.{Updater}
use Rattle.ledger.specs.declared.Fault.{Fault}
use Rattle.ledger.specs.declared.Verdict.{Verdict}
use Rattle.procedures.specs.Procedures.{Procedure, pure, ◌>>=◌, begin, read, write, commit, or_abort}

-- once begun: the read under the handle
abbrev pub read_if_begun : Result ℕ Fault → ℕ → ℕ → List ℕ → Procedure (Result ℕ Fault × List ℕ)
read_if_begun (Err e) k n b = pure (Err e, b)
read_if_begun (Ok h) k n b = do
  seen ← read h k n b
  end ← or_abort h seen.0 (pure (Ok h))
  pure (end, seen.1)

-- Begin an updater and read n keys from k on, with the buffer b: the handle, and what is left in the buffer.
abbrev pub begin_with_read : ℕ → ℕ → List ℕ → Procedure (Result ℕ Fault × List ℕ)
begin_with_read k n b = do
  begun ← begin Updater
  read_if_begun begun k n b

-- Write x to k under h and commit h.
abbrev pub commit_with_write : ℕ → ℕ → ℕ → Procedure (Result Verdict Fault)
commit_with_write h k x = do
  wrote ← write h k x
  or_abort h wrote (commit h)
