use Rattle.std.proofs.Common.{rules, ◌≤◌, length, get_or, arith}
use Rattle.std.specs.List.{AllWithin}
use Rattle.validation.specs.declared.entry.Entry.{Entry}
use Rattle.validation.specs.Stamps.{latest}
use Rattle.validation.specs.Recent.{list_stamps, cleared_entry}
use Rattle.validation.proofs.Recents.{entry_latest, entries_latest}
use Rattle.validation.proofs.recent.RecentListValidator.latest.Goals as goal

pub returns : goal.returns
returns c =
    let s = c.args.self.now in
    let es = s.entries.records in
    let all : AllWithin (λ (e : Entry). e.stamp ≤ c.unwrap_or.result) es 0 (length es) = search rules in
    let least : AllWithin (λ (e : Entry). e.stamp ≤ latest (list_stamps s.keys es)) es 0 (length es) = λ i d low in'. entry_latest s.keys es s.once i in' (get_or es i d) (search rules) in
    let most : c.unwrap_or.result ≤ latest (list_stamps s.keys es) = search rules in
    entries_latest s.keys es c.unwrap_or.result (λ i in'. all i cleared_entry (omega arith) in') most
