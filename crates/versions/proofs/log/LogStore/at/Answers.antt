use Rattle.std.proofs.Common.{rules, ◌≡◌, ◌<◌, length, get_or, sym, ◌∙◌}
use Rattle.std.proofs.iter.Serving.{serving}
use Rattle.std.specs.Option.{option_map, unwrap_or}
use Rattle.stamped.specs.Packing.{capacity}
use Rattle.stamped.specs.Lookups.{matches}
use Rattle.stamped.proofs.Lookups.{last_inside}
use Rattle.versions.specs.declared.store.Version.{Version}
use Rattle.versions.specs.Log.{cleared_version}
use Rattle.versions.proofs.Logs.{found_read}
use Rattle.versions.proofs.log.LogStore.at.Goals as goal

pub map_or-requires : goal.map_or-requires
map_or-requires c i is =
    let low : i < length c.as_slice-log.result.now = last_inside (λ (v : Version). matches c.args.key c.args.moment v.key v.stamp) c.as_slice-log.result.now i (sym c.find_last-found.ensures ∙ is) in
    grind serving

pub returns : goal.returns
returns c =
    let s = c.args.self.now in
    let log = c.as_slice-log.result.now in
    let read : c.map_or.result ≡ unwrap_or (option_map (λ i. ((get_or log i cleared_version).stamp, (get_or log i cleared_version).value)) c.find_last-found.result) (0, 0) = search rules in
    let found = found_read log c.args.key c.args.moment s.keys (capacity s.versions) c.if-key-self.false c.find_last-found.result c.map_or.result c.find_last-found.ensures read in
    rw c.as_slice-log.ensures at found
