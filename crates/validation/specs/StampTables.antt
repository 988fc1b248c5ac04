-- What a stamp table shows, and that every one is lawful.
use Rattle.std.specs.Prelude.{ℕ, List}
use Rattle.validation.specs.declared.table.StampTable.{StampTable}
use Rattle.validation.specs.Stamps.{Stamps, IsLawfulValidator}
use Rattle.validation.specs.Table.{table_stamps}

-- its stamps, one a granule
abbrev pub granule_stamps : StampTable → List ℕ
granule_stamps t = t.stamps.now

abbrev pub table_meaning : StampTable → Stamps
table_meaning t = table_stamps t.keys t.grain (granule_stamps t)

pub table_lawful : (t : StampTable) → IsLawfulValidator (table_meaning t)
table_lawful t = t.few
