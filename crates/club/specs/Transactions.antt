-- The transactions that a club's events are made of, as procedures.
use Rattle.std.specs.Prelude.{ℕ, List, [], ◌∷◌, replicate, slice_index, take, None, Option, Ok, Result}
use Rattle.refusals.specs.Results.{result_map}
use Rattle.ledger.specs.declared.Kind.TheVariants.{Reader, Updater}
use Rattle.ledger.specs.declared.Fault.{Fault}
use Rattle.ledger.specs.declared.Figure.{Figure}
use Rattle.ledger.specs.declared.KeyedValue.{KeyedValue}
use Rattle.ledger.specs.declared.SummaryKind.TheVariants.{Sum, Smallest, NonZero}
use Rattle.ledger.specs.declared.Verdict.{Verdict}
use Rattle.club.specs.declared.said.TheConstants.{KEYS}
use Rattle.club.specs.declared.said.Figures.{Figures}
use Rattle.club.specs.declared.said.Recalculation.{Recalculation}
use Rattle.club.specs.declared.said.Redone.{Redone}
use Rattle.club.specs.declared.said.Said.{Said}
use Rattle.club.specs.declared.said.Said.TheVariants.{Correction, Values, Figures as SaidFigures}
use Rattle.club.specs.Indexes.{index}
use Rattle.procedures.specs.Procedures.{Procedure, pure, ◌>>=◌, begin, read, total, commit, and_then}
use Rattle.procedures.specs.Updates.{begin_with_read, commit_with_write}

-- Begin an updater, write x to k and commit.
abbrev pub posted : ℕ → ℕ → Procedure (Result Verdict Fault)
posted k x = do
  begun ← begin Updater
  and_then begun λ h. commit_with_write h k x

-- Read a key's value and write x in its place.
abbrev pub corrected : ℕ → ℕ → Procedure (Result Said Fault)
corrected k x = do
  old ← begin_with_read k 1 (0 ∷ [])
  and_then old.0 λ h. do
    end ← commit_with_write h k x
    pure (Ok (Correction k x (slice_index old.1 0) end))

-- what a buffer for all the club's keys holds at first
abbrev pub no_values : List ℕ
no_values = replicate KEYS 0

-- Begin with a read of n rounds from k on, and work out the index that is to be written to x.
abbrev pub worked_out : ℕ → ℕ → ℕ → Procedure (Result Recalculation Fault)
worked_out k n x = do
  rounds ← begin_with_read k n no_values
  and_then rounds.0 λ h. pure (Ok (record { handle = h; first = k; count = n; index = x; value = index (take n rounds.1) }))

-- Work a recalculation out again, and finish it.
abbrev pub redone : Recalculation → Procedure (Result Redone Fault)
redone w = do
  worked ← worked_out w.first w.count w.index
  and_then worked λ v. do
    end ← commit_with_write v.handle v.index v.value
    pure (Ok (record { work = v; end = end }))

-- Begin a reader, read all the club's keys, and commit it.
abbrev pub listed : Procedure (Result Said Fault)
listed = do
  begun ← begin Reader
  and_then begun λ h. do
    seen ← read h 0 KEYS no_values
    _ ← commit h
    pure (result_map (λ _. Values seen.1) seen.0)

-- Read all the club's keys under h.
abbrev pub report_shown : ℕ → Procedure (Result Said Fault)
report_shown h = do
  seen ← read h 0 KEYS no_values
  pure (result_map (λ _. Values seen.1) seen.0)

-- what a total told of the sum
abbrev pub sum_in : Figure → ℕ
sum_in (Figure.Sum n) = n
sum_in _ = 0

-- what a total told of the smallest
abbrev pub smallest_in : Figure → Option KeyedValue
smallest_in (Figure.Smallest x) = x
smallest_in _ = None

-- what a total told of how many are not 0
abbrev pub number_in : Figure → ℕ
number_in (Figure.NonZero n) = n
number_in _ = 0

-- Total n rounds from k on under h: their sum, the smallest of them, and how many are not 0.
abbrev pub figures_told : ℕ → ℕ → ℕ → Procedure (Result Figures Fault)
figures_told h k n = do
  sum ← total h k n Sum
  and_then sum λ s. do
    smallest ← total h k n Smallest
    and_then smallest λ x. do
      number ← total h k n NonZero
      pure (result_map (λ c. record { sum = sum_in s; smallest = smallest_in x; played = number_in c }) number)

-- Begin a reader, tell the figures of n rounds from k on, and commit it.
abbrev pub figures_listed : ℕ → ℕ → Procedure (Result Said Fault)
figures_listed k n = do
  begun ← begin Reader
  and_then begun λ h. do
    told ← figures_told h k n
    _ ← commit h
    pure (result_map SaidFigures told)

-- Tell the figures of n rounds from k on under h.
abbrev pub figures_shown : ℕ → ℕ → ℕ → Procedure (Result Said Fault)
figures_shown h k n = do
  told ← figures_told h k n
  pure (result_map SaidFigures told)
