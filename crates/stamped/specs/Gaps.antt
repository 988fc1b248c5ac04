-- What a closing of gaps leaves of a list of records.
use Rattle.std.specs.Prelude.{Bool, if◌then◌else◌, List, [], ◌∷◌, ◌++◌, length, drop}

-- the records that stay, in their order: each is judged with the records behind it
abbrev pub closed : {X : Type 0} → (X → List X → Bool) → List X → List X
closed drops [] = []
closed drops (x ∷ xs) = if drops x xs then closed drops xs else (x ∷ closed drops xs)

-- all the places afterwards: the records that stay, and behind them what stood there before
abbrev pub closed_places : {X : Type 0} → (X → List X → Bool) → List X → List X
closed_places drops xs = closed drops xs ++ drop (length (closed drops xs)) xs
