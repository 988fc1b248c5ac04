-- A look-up in a list of records that carry a key and a stamp.
use Rattle.std.specs.Prelude.{ℕ, suc, Bool, true, if◌then◌else◌, ◌&&◌, List, [], ◌∷◌, Some, None, Option, ◌==◌, nat_lt}
use Rattle.std.specs.Option.{option_map, option_or}
use Rattle.stamped.specs.declared.lookup.Moment.{Moment}
use Rattle.stamped.specs.declared.lookup.Moment.TheVariants.{Now, Before}

-- whether a stamp counts at a moment
abbrev pub takes : Moment → ℕ → Bool
takes Now s = true
takes (Before t) s = nat_lt s t

-- whether a record has this key, and a stamp that counts at the moment
abbrev pub matches : ℕ → Moment → ℕ → ℕ → Bool
matches key moment k s = k == key && takes moment s

-- the last index at which p passes
abbrev pub last_position : {X : Type 0} → (X → Bool) → List X → Option ℕ
last_position p [] = None
last_position p (x ∷ xs) = option_or (option_map suc (last_position p xs)) (if p x then Some 0 else None)
