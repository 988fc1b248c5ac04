-- What a recent list shows, and that every one is lawful.
use Rattle.std.specs.Prelude.{List}
use Rattle.validation.specs.declared.entry.Entry.{Entry}
use Rattle.validation.specs.declared.recent.RecentList.{RecentList}
use Rattle.validation.specs.Stamps.{Stamps, IsLawfulValidator}
use Rattle.validation.specs.Recent.{list_stamps}

-- its entries in the order of noting
abbrev pub entries_of : RecentList → List Entry
entries_of l = l.entries.records

-- what its other places hold
abbrev pub places_behind : RecentList → List Entry
places_behind l = l.entries.rest

abbrev pub list_meaning : RecentList → Stamps
list_meaning l = list_stamps l.keys (entries_of l)

pub list_lawful : (l : RecentList) → IsLawfulValidator (list_meaning l)
list_lawful l = l.few
