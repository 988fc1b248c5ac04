-- What each refusal of a validator, and of the set-up of one, says.
use Rattle.std.specs.Prelude.{ℕ}
use Rattle.refusals.specs.declared.Report.{Report}
use Rattle.validation.specs.declared.fault.ValidatorFault.{ValidatorFault}
use Rattle.validation.specs.declared.fault.ValidatorFault.TheVariants.{KeyOutside, StaleStamp}
use Rattle.validation.specs.declared.fault.StampTableFault.{StampTableFault}
use Rattle.validation.specs.declared.fault.StampTableFault.TheVariants.{Keys as TableKeys, Grain, Places as TablePlaces}
use Rattle.validation.specs.declared.fault.RecentListFault.{RecentListFault}
use Rattle.validation.specs.declared.fault.RecentListFault.TheVariants.{Keys as ListKeys, Places as ListPlaces}

-- validators are the second layer
abbrev pub second_layer : ℕ → ℕ → Report
second_layer number place = record { layer = 2; number = number; place = place }

abbrev pub validator_report : ValidatorFault → Report
validator_report (KeyOutside key) = second_layer 5 key
validator_report (StaleStamp key) = second_layer 16 key

abbrev pub stamp_table_report : StampTableFault → Report
stamp_table_report (TableKeys keys) = second_layer 1 keys
stamp_table_report (Grain grain) = second_layer 4 grain
stamp_table_report (TablePlaces places) = second_layer 3 places

abbrev pub recent_list_report : RecentListFault → Report
recent_list_report (ListKeys keys) = second_layer 1 keys
recent_list_report (ListPlaces places) = second_layer 3 places
