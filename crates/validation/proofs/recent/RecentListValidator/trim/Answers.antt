use Rattle.std.proofs.Common.{◌∙◌}
use Rattle.stamped.proofs.Closings.{capacity-closed}
use Rattle.validation.proofs.Recents.{older, once_closed, list_trimmed}
use Rattle.validation.proofs.recent.RecentListValidator.trim.Goals as goal

pub invariant_of-self : goal.invariant_of-self
invariant_of-self c =
    let s = c.args.self.now in
    rw c.close_gaps.ensures (record {
      few = s.few;
      places = capacity-closed (older c.args.tick) s.entries ∙ s.places;
      once = once_closed (older c.args.tick) s.keys s.entries.records s.once;
    })

pub returns : goal.returns
returns c =
    let s = c.args.self.now in
    rw c.close_gaps.ensures (list_trimmed s.keys s.entries.records s.once c.args.tick)
