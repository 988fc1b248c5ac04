-- The meaning of a validator, and what each call answers and leaves.
use Rattle.std.specs.Prelude.{ℕ, zero, suc, ◌+◌, ◌≤◌, max, if◌then◌else◌, Ok, Err, Option, Result, find, is_ok, ◌==◌, nat_le, nat_lt}
use Rattle.std.specs.List.{range_with_len}
use Rattle.std.specs.Option.{option_map}
use Rattle.std.specs.Result.{result_and}
use Rattle.refusals.specs.Results.{result_map}
use Rattle.stamped.specs.declared.TheConstants.{MAX_KEYS}
use Rattle.validation.specs.declared.fault.ValidatorFault.{ValidatorFault}
use Rattle.validation.specs.declared.fault.ValidatorFault.TheVariants.{KeyOutside, StaleStamp}
use Rattle.validation.specs.declared.validator.Clash.{Clash}

-- what a validator means
pub record Stamps : Type 0 where
  pub keys : ℕ
  -- the granule of a key
  pub granule : ℕ → ℕ
  -- the stamp of a granule; 0 where none was noted, or a trim has removed it
  pub stamp : ℕ → ℕ

-- the stamp of a key's granule
abbrev pub stamp_at : Stamps → ℕ → ℕ
stamp_at m k = m.stamp (m.granule k)

-- a validator has the keys below so many
abbrev pub key_check : ℕ → ℕ → Result (Unit {0}) ValidatorFault
key_check keys k = if nat_le keys k then Err (KeyOutside k) else Ok tt

abbrev pub granule_answer : Stamps → ℕ → Result ℕ ValidatorFault
granule_answer m k = result_map (λ _. m.granule k) (key_check m.keys k)

abbrev pub note_answer : Stamps → ℕ → ℕ → Result (Unit {0}) ValidatorFault
note_answer m k s =
    result_and (key_check m.keys k) (if nat_lt s (stamp_at m k) then Err (StaleStamp k) else Ok tt)

abbrev pub with_stamps : Stamps → (ℕ → ℕ) → Stamps
with_stamps m f = record m { stamp = f }

-- the validator after a note; a refused one changes nothing
abbrev pub noted : Stamps → ℕ → ℕ → Stamps
noted m k s =
    if is_ok (note_answer m k s) then with_stamps m (λ g. if m.granule k == g then s else m.stamp g) else m

-- a key, with the stamp of its granule
abbrev pub clash_at : Stamps → ℕ → Clash
clash_at m k = record { key = k; stamp = stamp_at m k }

-- the lowest of count keys from k on whose granule has a stamp above the start
abbrev pub first_clash : Stamps → ℕ → ℕ → ℕ → Option Clash
first_clash m start k count =
    option_map (clash_at m) (find (λ j. nat_lt start (stamp_at m j)) (range_with_len k count))

abbrev pub clash_answer : Stamps → ℕ → ℕ → ℕ → Result (Option Clash) ValidatorFault
clash_answer m first count start =
    if nat_lt m.keys (first + count) then Err (KeyOutside first) else Ok (first_clash m start first count)

-- the validator after a trim: a stamp below the tick becomes 0
abbrev pub trimmed : Stamps → ℕ → Stamps
trimmed m tick = with_stamps m (λ g. if nat_lt (m.stamp g) tick then 0 else m.stamp g)

-- the greatest of f 0, f 1, .. f (n - 1), or 0
abbrev pub greatest_below : ℕ → (ℕ → ℕ) → ℕ
greatest_below zero f = 0
greatest_below (suc n) f = max (greatest_below n f) (f n)

abbrev pub latest : Stamps → ℕ
latest m = greatest_below m.keys (stamp_at m)

-- what holds of every validator: keys within their limits, or none after a refused set-up
abbrev pub IsLawfulValidator : Stamps → Type 0
IsLawfulValidator m = m.keys ≤ MAX_KEYS
