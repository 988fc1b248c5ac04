-- Set-up of an engine: what its check answers, and what a refusal says.
use Rattle.std.specs.Prelude.{ℕ, if◌then◌else◌, not, ◌||◌, Ok, Err, Result, ◌==◌, nat_lt}
use Rattle.std.specs.Result.{is_ok}
use Rattle.refusals.specs.declared.Report.{Report}
use Rattle.ledger.specs.Faults.{third_layer}
use Rattle.versions.specs.Stores.{Store, kept}
use Rattle.validation.specs.Stamps.{Stamps, latest}
use Rattle.engine.specs.declared.engine.TheConstants.{LAST_TICK}
use Rattle.engine.specs.declared.fault.SetUpFault.{SetUpFault}
use Rattle.engine.specs.declared.fault.SetUpFault.TheVariants.{LastTick, NotFresh}

abbrev pub set_up_report : SetUpFault → Report
-- the last tick is outside 1 to the greatest: the place is that tick
set_up_report (LastTick z) = third_layer 2 z
-- store and validator differ in keys, or one of them is not empty
set_up_report NotFresh = third_layer 8 0

-- the last tick, then that store and validator have the same keys, and nothing yet
abbrev pub engine_check : ℕ → Store → Stamps → Result (Unit {0}) SetUpFault
engine_check last s v =
    if last == 0 || nat_lt LAST_TICK last then Err (LastTick last)
    else if not (s.keys == v.keys) || (nat_lt 0 (kept s) || nat_lt 0 (latest v)) then Err NotFresh
    else Ok tt

-- the last tick of the engine made; 0 where its check refuses
abbrev pub last_of : ℕ → Store → Stamps → ℕ
last_of last s v = if is_ok (engine_check last s v) then last else 0
