use Rattle.std.proofs.Common.{arith}
use Rattle.validation.specs.declared.entry.Entry.{Entry}
use Rattle.validation.specs.Recent.{list_stamps}
use Rattle.validation.proofs.Answering.{granule_known}
use Rattle.validation.proofs.Recents.{noting_places, noting_once, noting_meaning}
use Rattle.validation.proofs.recent.RecentListValidator.note.Goals as goal

pub invariant_of-self : goal.invariant_of-self
invariant_of-self c =
    let s = c.args.self.now in
    let e : Entry = record { key = c.args.key; stamp = c.args.stamp } in
    let known = (granule_known (list_stamps s.keys s.entries.records) c.args.key _ c.in_ok-granule.ensures).0 in
    record {
      few = s.few;
      places = noting_places s.keys s.entries c.close_gaps.new.self c.push.new.self e s.once known s.places c.close_gaps.ensures c.push.result c.push.ensures.fits.1 c.push.ensures.pushed;
      once = noting_once s.keys s.entries c.close_gaps.new.self c.push.new.self e s.once known s.places c.close_gaps.ensures c.push.result c.push.ensures.fits.1 c.push.ensures.pushed;
    }

pub returns-clause-after : goal.returns-clause-after
returns-clause-after c =
    let s = c.args.self.now in
    let e : Entry = record { key = c.args.key; stamp = c.args.stamp } in
    let known = (granule_known (list_stamps s.keys s.entries.records) c.args.key _ c.in_ok-granule.ensures).0 in
    noting_meaning s.keys s.entries c.close_gaps.new.self c.push.new.self e s.once known s.places c.close_gaps.ensures c.push.result c.push.ensures.fits.1 c.push.ensures.pushed (omega (arith, c.stamp_of.ensures))
