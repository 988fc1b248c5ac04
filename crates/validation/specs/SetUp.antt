-- Setting a validator up: what its check answers, and what a new one means.
use Rattle.std.specs.Prelude.{ℕ, if◌then◌else◌, not, ◌||◌, Ok, Err, Result, is_ok, ◌==◌, nat_lt}
use Rattle.std.specs.Int.{div_ceil}
use Rattle.stamped.specs.Sizes.{keys_outside}
use Rattle.validation.specs.declared.fault.StampTableFault.{StampTableFault}
use Rattle.validation.specs.declared.fault.StampTableFault.TheVariants.{Keys as TableKeys, Grain, Places as TablePlaces}
use Rattle.validation.specs.declared.fault.RecentListFault.{RecentListFault}
use Rattle.validation.specs.declared.fault.RecentListFault.TheVariants.{Keys as ListKeys, Places as ListPlaces}
use Rattle.validation.specs.Stamps.{Stamps}

-- a stamp table: the keys, then the grain, then the places, one a granule
abbrev pub stamp_table_check : ℕ → ℕ → ℕ → Result (Unit {0}) StampTableFault
stamp_table_check keys grain places =
    if keys_outside keys then Err (TableKeys keys)
    else if grain == 0 || nat_lt keys grain then Err (Grain grain)
    else if not (places == div_ceil keys grain) then Err (TablePlaces places)
    else Ok tt

-- a recent list: the keys, then the places, one a key
abbrev pub recent_list_check : ℕ → ℕ → Result (Unit {0}) RecentListFault
recent_list_check keys places =
    if keys_outside keys then Err (ListKeys keys)
    else if not (places == keys) then Err (ListPlaces places)
    else Ok tt

-- with nothing noted
abbrev pub cleared_stamps : ℕ → (ℕ → ℕ) → Stamps
cleared_stamps keys granule = record { keys = keys; granule = granule; stamp = λ g. 0 }

-- what a validator means that was just made: it has no keys where its check refuses
abbrev pub new_stamps : {Fault : Type 0} → Result (Unit {0}) Fault → ℕ → (ℕ → ℕ) → Stamps
new_stamps answer keys granule =
    if is_ok answer then cleared_stamps keys granule else cleared_stamps 0 (λ k. k)
