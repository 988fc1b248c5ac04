use Rattle.std.proofs.Common.{◌≡◌, drop}
use Rattle.engine.specs.Endings.{all_added, all_noted}
use Rattle.engine.proofs.engine.Engine.install.Given as goal

abbrev pub invariant-loop-write : goal.invariant-loop-write
invariant-loop-write g l =
    (l.self.table ≡ l.initial.self.table)
    × (all_added l.tick (g.S.VersionStore.meaning l.self.store) (drop l.write-index l.writes) ≡ all_added l.tick (g.S.VersionStore.meaning l.initial.self.store) l.writes)
    × (all_noted l.tick (g.V.Validator.meaning l.self.validator) (drop l.write-index l.writes) ≡ all_noted l.tick (g.V.Validator.meaning l.initial.self.validator) l.writes)
