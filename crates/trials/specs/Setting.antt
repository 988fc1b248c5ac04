-- Which text gives which setting: five numbers apart by white space, and whatever comes behind.
use Rattle.std.specs.Prelude.{◌≡◌, ℕ, ◌⊎◌, List, [], ◌∷◌, Some, None, Ok, Err, ⊤}
use Rattle.std.specs.Borrow.{Bor}
use Rattle.std.specs.Str.Iter.{split_whitespace_rest, split_whitespace_steps}
use Rattle.std.specs.Str.Parse.{ParsesUnsigned}
use Rattle.std.specs.declared.num.ParseIntError.{ParseIntError}
use Rattle.std.specs.declared.str.SplitWhitespace.{SplitWhitespace}
use Rattle.trials.specs.declared.trial.Setting.{Setting}
use Rattle.trials.specs.declared.trial.SettingError.{SettingError}
use Rattle.trials.specs.declared.trial.SettingError.TheVariants.{Short, Number}

-- n is written in decimal, and fits in so many bits
abbrev pub IsWritten : ℕ → ℕ → Bor (List ℕ) → Type 0
IsWritten bits n word = ParsesUnsigned {E = ParseIntError} bits 10 word.now (Ok n)

-- the word is no number of so many bits, and the error says so
abbrev pub IsNoNumber : ℕ → SettingError → Bor (List ℕ) → Type 0
IsNoNumber bits e word = (cause : ParseIntError) × ((e ≡ Number cause) × ParsesUnsigned bits 10 word.now (Err cause))

-- the next word writes n, and Rest is what holds behind it
abbrev pub NextIs : ℕ → ℕ → (SplitWhitespace → Type 0) → SplitWhitespace → Type 0
NextIs bits n Rest words = (word : Bor (List ℕ)) × (IsWritten bits n word × ((behind : SplitWhitespace) × (split_whitespace_steps words (Some word) behind × Rest behind)))

abbrev pub Gives : List ℕ → Setting → Type 0
Gives text s = (words : SplitWhitespace) × ((split_whitespace_rest words ≡ text) × NextIs 16 s.keys (NextIs 64 s.cells (NextIs 16 s.grain (NextIs 32 s.last (NextIs 64 s.places (λ _. ⊤))))) words)

-- the words end before each of these sizes has its number, or the next that is no number ends them
abbrev pub Fails : SettingError → List ℕ → SplitWhitespace → Type 0
Fails e [] words = ⊥
Fails e (bits ∷ more) words =
    ((behind : SplitWhitespace) × (split_whitespace_steps words None behind × (e ≡ Short)))
    ⊎ ((word : Bor (List ℕ)) × ((behind : SplitWhitespace) × (split_whitespace_steps words (Some word) behind × (IsNoNumber bits e word ⊎ Fails e more behind))))

abbrev pub GivesNone : List ℕ → SettingError → Type 0
GivesNone text e = (words : SplitWhitespace) × ((split_whitespace_rest words ≡ text) × Fails e (16 ∷ 64 ∷ 16 ∷ 32 ∷ 64 ∷ []) words)
