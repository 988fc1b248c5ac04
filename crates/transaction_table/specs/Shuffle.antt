-- Lists with the same elements in another order.
use Rattle.std.specs.Prelude.{List, [], ◌∷◌}

pub data IsShuffle {X : Type 0} : List X → List X → Type 0 where
  done : IsShuffle [] []
  keep : {x : X} {xs ys : List X} → IsShuffle xs ys → IsShuffle (x ∷ xs) (x ∷ ys)
  swap : {x y : X} {xs : List X} → IsShuffle (x ∷ (y ∷ xs)) (y ∷ (x ∷ xs))
  join : {xs ys zs : List X} → IsShuffle xs ys → IsShuffle ys zs → IsShuffle xs zs
