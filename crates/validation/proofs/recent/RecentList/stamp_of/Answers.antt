use Rattle.std.proofs.Common.{rules, ◌≡◌, ◌<◌, length, get_or, sym, ◌∙◌}
use Rattle.std.proofs.iter.Serving.{serving}
use Rattle.std.specs.Option.{option_map, unwrap_or}
use Rattle.stamped.specs.Lookups.{matches}
use Rattle.stamped.specs.declared.lookup.Moment.TheVariants.{Now}
use Rattle.stamped.proofs.Lookups.{last_inside}
use Rattle.validation.specs.declared.entry.Entry.{Entry}
use Rattle.validation.specs.Recent.{AreOnePerKey, cleared_entry}
use Rattle.validation.proofs.Recents.{found_stamp}
use Rattle.validation.proofs.recent.RecentList.stamp_of.Goals as goal

pub map_or-requires : goal.map_or-requires
map_or-requires c i is =
    let low : i < length c.as_slice-entries.result.now = last_inside (λ (e : Entry). matches c.args.key Now e.key e.stamp) c.as_slice-entries.result.now i (sym c.find_last.ensures ∙ is) in
    grind serving

pub returns : goal.returns
returns c =
    let s = c.args.self.now in
    let entries = c.as_slice-entries.result.now in
    let read : c.map_or.result ≡ unwrap_or (option_map (λ i. (get_or entries i cleared_entry).stamp) c.find_last.result) 0 = search rules in
    let once : AreOnePerKey s.keys entries = rw c.as_slice-entries.ensures s.once in
    let found = found_stamp s.keys entries once c.args.key c.find_last.result c.map_or.result c.find_last.ensures read in
    rw c.as_slice-entries.ensures at found
