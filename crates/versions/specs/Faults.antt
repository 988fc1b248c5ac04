-- What each refusal of a version store, the first layer, says.
use Rattle.std.specs.Prelude.{ℕ}
use Rattle.refusals.specs.declared.Report.{Report}
use Rattle.versions.specs.declared.fault.StoreFault.{StoreFault}
use Rattle.versions.specs.declared.fault.StoreFault.TheVariants.{KeyOutside, Full, StaleStamp}
use Rattle.versions.specs.declared.fault.SizeFault.{SizeFault}
use Rattle.versions.specs.declared.fault.SizeFault.TheVariants.{Keys, Cells}

-- version stores are the first layer
abbrev pub first_layer : ℕ → ℕ → Report
first_layer number place = record { layer = 1; number = number; place = place }

-- of a call
abbrev pub store_report : StoreFault → Report
store_report (KeyOutside key) = first_layer 5 key
store_report (Full key) = first_layer 15 key
store_report (StaleStamp key) = first_layer 16 key

-- of a set-up
abbrev pub size_report : SizeFault → Report
size_report (Keys keys) = first_layer 1 keys
size_report (Cells cells) = first_layer 3 cells
