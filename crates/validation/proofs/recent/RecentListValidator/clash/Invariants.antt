use Rattle.std.proofs.Common.{◌+◌}
use Rattle.validation.proofs.Recents.{IsLookedThrough}
use Rattle.validation.proofs.recent.RecentListValidator.clash.Given as goal

abbrev pub invariant-loop-entry : goal.invariant-loop-entry
invariant-loop-entry l = IsLookedThrough l.self.entries.records l.start l.first (l.first + l.count) l.end l.lowest l.entry-index
