-- The next word of a text, and the number that it writes.
use Rattle.std.proofs.Common.{◌≡◌, ℕ, List, ◌∷◌, Option, Some, None, IsSomeAnd, MatchOption, Result, Ok, Err, IsErrAnd, MatchResult, inl, inr}
use Rattle.std.specs.Borrow.{Bor}
use Rattle.std.specs.Str.Iter.{split_whitespace_steps}
use Rattle.std.specs.Str.Parse.{ParsesUnsigned}
use Rattle.std.specs.declared.num.ParseIntError.{ParseIntError}
use Rattle.std.specs.declared.str.SplitWhitespace.{SplitWhitespace}
use Rattle.trials.specs.declared.trial.Setting.{Setting}
use Rattle.trials.specs.declared.trial.SettingError.{SettingError}
use Rattle.trials.specs.declared.trial.SettingError.TheVariants.{Short, Number}
use Rattle.trials.specs.Setting.{IsWritten, NextIs, Fails, Gives, GivesNone}

pub next_word : (bits n : ℕ) (words behind : SplitWhitespace) (word : Option (Bor (List ℕ))) (Read : Bor (List ℕ) → Type 0) (Rest : SplitWhitespace → Type 0) → ((w : Bor (List ℕ)) → Read w → IsWritten bits n w) → split_whitespace_steps words word behind → IsSomeAnd word Read → Rest behind → NextIs bits n Rest words
next_word bits n words behind None Read Rest f s r g = absurd r
next_word bits n words behind (Some w) Read Rest f s r g = (w, (f w r, (behind, (s, g))))

-- a word that gave no number, or no word at all, at the first of the sizes
pub fails_here : (bits : ℕ) (more : List ℕ) (e : SettingError) (words behind : SplitWhitespace) (word : Option (Bor (List ℕ))) (Cause : Bor (List ℕ) → ParseIntError → Type 0) → ((w : Bor (List ℕ)) (cause : ParseIntError) → Cause w cause → ParsesUnsigned bits 10 w.now (Err cause)) → split_whitespace_steps words word behind → MatchOption word (e ≡ Short) (λ w. (cause : ParseIntError) × ((e ≡ Number cause) × Cause w cause)) → Fails e (bits ∷ more) words
fails_here bits more e words behind None Cause f s r = inl (behind, (s, r))
fails_here bits more e words behind (Some w) Cause f s r = inr (w, (behind, (s, inl (r.0, (r.1.0, f w r.0 r.1.1)))))

-- the first gave a number
pub fails_behind : (bits : ℕ) (more : List ℕ) (e : SettingError) (words behind : SplitWhitespace) (word : Option (Bor (List ℕ))) (Read : Bor (List ℕ) → Type 0) → split_whitespace_steps words word behind → IsSomeAnd word Read → Fails e more behind → Fails e (bits ∷ more) words
fails_behind bits more e words behind None Read s r g = absurd r
fails_behind bits more e words behind (Some w) Read s r g = inr (w, (behind, (s, inr g)))

pub fails : (text : List ℕ) (e : SettingError) (r : Result Setting SettingError) → IsErrAnd r (λ f. f ≡ e) → GivesNone text e → MatchResult r (Gives text) (GivesNone text)
fails text e (Ok s) h g = absurd h
fails text e (Err f) h g = rw h g
