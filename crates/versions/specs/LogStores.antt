-- What a log store shows.
use Rattle.std.specs.Prelude.{List}
use Rattle.stamped.specs.Packing.{capacity}
use Rattle.versions.specs.declared.store.Version.{Version}
use Rattle.versions.specs.declared.log.LogStore.{LogStore}
use Rattle.versions.specs.Stores.{Store}
use Rattle.versions.specs.Log.{store_of_log}

-- its versions in the order of adding
abbrev pub log_of : LogStore → List Version
log_of s = s.versions.records

-- what its other cells hold
abbrev pub cells_behind : LogStore → List Version
cells_behind s = s.versions.rest

abbrev pub log_meaning : LogStore → Store
log_meaning s = store_of_log s.keys (capacity s.versions) (log_of s)
