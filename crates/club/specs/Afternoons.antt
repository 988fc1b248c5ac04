-- What is written for the lines of an afternoon, which two engines answer.
use Rattle.std.specs.Prelude.{◌≡◌, ℕ, ◌+◌, List, [], ◌∷◌, ◌++◌, length, None, Option, Result, codes, decimal}
use Rattle.std.specs.Io.KnownBytes.{Appends}
use Rattle.ledger.specs.Ledger.{Ledger}
use Rattle.versions.specs.Stores.{Store}
use Rattle.validation.specs.Stamps.{Stamps}
use Rattle.engine.specs.Parts.{FitsEngine}
use Rattle.answer_lines.specs.declared.LineFault.{LineFault}
use Rattle.club.specs.declared.desk.Desk.{Desk}
use Rattle.club.specs.declared.event.Event.{Event}
use Rattle.club.specs.declared.said.Recalculation.{Recalculation}
use Rattle.club.specs.declared.said.Said.{Said}
use Rattle.club.specs.Lines.{event_in}
use Rattle.procedures.specs.Procedures.{Procedure, pure, ◌>>=◌, Performs}
use Rattle.club.specs.Events.{engine_of, pending_of, answered}
use Rattle.club.specs.Texts.{answer_text}

-- what is written for line n: its number, a space, and the words of what it did
abbrev pub said_line : ℕ → Result Said LineFault → List ℕ
said_line n r = decimal n ++ (codes " " ++ (answer_text r ++ codes "\n"))

-- what is written for the lines from number n on, where w is open, and what is open afterwards
abbrev pub afternoon : ℕ → Option Recalculation → List (List ℕ) → Procedure (List ℕ × Option Recalculation)
afternoon n w [] = pure ([], w)
afternoon n w (l ∷ ls) = do
  r ← answered n w (event_in l)
  more ← afternoon (n + 1) r.1 ls
  pure (said_line n r.0 ++ more.0, more.1)

-- the last line: how many lines there were, and on how many the two engines differed
abbrev pub counts_line : ℕ → ℕ → List ℕ
counts_line count apart = decimal count ++ (codes " lines on two stores and two validators, " ++ (decimal apart ++ codes " told apart\n"))

-- all that is written for lines, on a ledger where no recalculation is open
abbrev pub afternoon_text : Ledger → List (List ℕ) → List ℕ
afternoon_text l ls = (afternoon 1 None ls l).answer.0 ++ counts_line (length ls) 0

-- Two desks. m and p are the meanings of the one's store and validator, m' and p' those of the other's.

-- one ledger fits both engines, and the same recalculation is open
pub record AreAlike {S V S' V' : Type 0} (m : S → Store) (p : V → Stamps) (m' : S' → Store) (p' : V' → Stamps) (d : Desk S V) (d' : Desk S' V') : Type 0 where
  pub ledger : Ledger
  pub first : FitsEngine m p ledger (engine_of d)
  pub second : FitsEngine m' p' ledger (engine_of d')
  pub pending : pending_of d ≡ pending_of d'

-- from d to k and from d' to k' the lines were answered; what was written before was old, and is new; apart of them were told apart
pub record AnswersLines {S V S' V' : Type 0} (m : S → Store) (p : V → Stamps) (m' : S' → Store) (p' : V' → Stamps) (d k : Desk S V) (d' k' : Desk S' V') (ls : List (List ℕ)) (old new : Option (List ℕ)) (apart : ℕ) : Type 0 where
  -- what the one engine says, and the other
  pub said : List ℕ
  pub other_said : List ℕ
  pub one : Performs m p (engine_of d) (engine_of k) (afternoon 1 (pending_of d) ls) (said, pending_of k)
  pub other : Performs m' p' (engine_of d') (engine_of k') (afternoon 1 (pending_of d') ls) (other_said, pending_of k')
  -- from desks that are alike nothing is told apart: what is written is what the one says
  pub alike : AreAlike m p m' p' d d' → AreAlike m p m' p' k k'
  pub agree : AreAlike m p m' p' d d' → apart ≡ 0
  pub written : AreAlike m p m' p' d d' → Appends old new said

-- the same of one line, number n, which tells of this event
pub record AnswersOnBoth {S V S' V' : Type 0} (m : S → Store) (p : V → Stamps) (m' : S' → Store) (p' : V' → Stamps) (d k : Desk S V) (d' k' : Desk S' V') (n : ℕ) (e : Option Event) (old new : Option (List ℕ)) (apart : ℕ) : Type 0 where
  pub said : Result Said LineFault
  pub other_said : Result Said LineFault
  pub one : Performs m p (engine_of d) (engine_of k) (answered n (pending_of d) e) (said, pending_of k)
  pub other : Performs m' p' (engine_of d') (engine_of k') (answered n (pending_of d') e) (other_said, pending_of k')
  pub agree : said ≡ other_said → apart ≡ 0
  pub written : said ≡ other_said → Appends old new (said_line n said)

-- the lines were answered, and behind what was written of them the counts
pub record AnswersAfternoon {S V S' V' : Type 0} (m : S → Store) (p : V → Stamps) (m' : S' → Store) (p' : V' → Stamps) (d k : Desk S V) (d' k' : Desk S' V') (ls : List (List ℕ)) (old new : Option (List ℕ)) : Type 0 where
  pub mid : Option (List ℕ)
  pub apart : ℕ
  pub answers : AnswersLines m p m' p' d k d' k' ls old mid apart
  pub counts : Appends mid new (counts_line (length ls) apart)
