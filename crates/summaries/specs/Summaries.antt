-- What a kind of summary promises, and what it makes of the values of a run of keys.
use Rattle.std.specs.Prelude.{◌≡◌, ℕ, ◌+◌, List, [], ◌∷◌}

-- the neutral one changes nothing, and joining comes out alike in any bracketing
pub record SummaryLaws {M : Type 0} (neutral : M) (join : M → M → M) : Type 0 where
  pub left_neutral : (x : M) → join neutral x ≡ x
  pub right_neutral : (x : M) → join x neutral ≡ x
  pub assoc : (x y z : M) → join (join x y) z ≡ join x (join y z)

-- the values of the keys k, k + 1, .. joined by rising key; the neutral one of none
abbrev pub summary_of : {M : Type 0} → (ℕ → ℕ → M) → M → (M → M → M) → ℕ → List ℕ → M
summary_of one neutral join k [] = neutral
summary_of one neutral join k (v ∷ vs) = join (one k v) (summary_of one neutral join (k + 1) vs)
