-- How many keys a store or a validator is made for.
use Rattle.std.specs.Prelude.{ℕ, Bool, ◌||◌, ◌==◌, nat_lt}
use Rattle.stamped.specs.declared.TheConstants.{MAX_KEYS}

-- none, or too many
abbrev pub keys_outside : ℕ → Bool
keys_outside keys = keys == 0 || nat_lt MAX_KEYS keys
