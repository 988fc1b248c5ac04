use Rattle.std.proofs.Common.{◌≡◌, drop, None}
use Rattle.engine.specs.Endings.{first_named}
use Rattle.engine.proofs.engine.Engine.clash.Given as goal

abbrev pub invariant-entries : goal.invariant-entries
invariant-entries g l =
    (l.found ≡ None)
    × (first_named (g.V.Validator.meaning l.self.validator) l.updater.start (drop l.range-index l.reads) ≡ first_named (g.V.Validator.meaning l.self.validator) l.updater.start l.reads)
