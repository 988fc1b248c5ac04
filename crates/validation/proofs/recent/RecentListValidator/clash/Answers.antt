use Rattle.std.proofs.Common.{◌≡◌, ◌+◌, ◌<◌, List, length, get_or, sym, ap, arith}
use Rattle.validation.specs.declared.entry.Entry.{Entry}
use Rattle.validation.specs.Recent.{list_stamps, cleared_entry}
use Rattle.validation.proofs.Answering.{clash_answered}
use Rattle.validation.proofs.Recents.{looked_hit, looked_miss, looked_all}
use Rattle.validation.proofs.recent.RecentListValidator.clash.Goals as goal
use Rattle.validation.proofs.recent.RecentListValidator.clash.Goals.{then-entry-first+then-entry-end+then-entry-start, else-entry-first, else-entry-first-via-then-entry-first+then-entry-end+else-entry-start, else-entry-first-via-then-entry-first+else-entry-end, else-entry-first-via-else-entry-first}

pub loop-entry-preserved : goal.loop-entry-preserved
loop-entry-preserved c =
    let s = c.args.self.now in
    let es = s.entries.records in
    let l = c.loop-entry in
    let items = c.as_slice-entry-items.result.now in
    let e = get_or items l.entry-index cleared_entry in
    let in' : l.entry-index < length es = omega (arith, ap length c.as_slice-entry-items.ensures, c.loop-entry-test.true) in
    let is : get_or es l.entry-index cleared_entry ≡ e = ap (λ (xs : List Entry). get_or xs l.entry-index cleared_entry) (sym c.as_slice-entry-items.ensures) in
    let hit = looked_hit s.keys es s.once c.args.start c.args.first (c.args.first + c.args.count) l.end l.lowest l.entry-index l.invariant in' e is in
    let miss = looked_miss s.keys es s.once c.args.start c.args.first (c.args.first + c.args.count) l.end l.lowest l.entry-index l.invariant in' e is in
    elim c.if-entry-first.branch [
      | then-entry-first+then-entry-end+then-entry-start w ↦ rw w.lowest-is (hit c.if-entry-first.end (omega (arith, w.end-is)) (omega (arith, w.if-entry-first.true)) (omega (arith, w.if-entry-end.true)) (omega (arith, w.if-entry-start.true)))
      | else-entry-first w ↦ rw (w.lowest-is, w.end-is) (miss (λ from upto. elim w.else-entry-first.branch [
        | else-entry-first-via-then-entry-first+then-entry-end+else-entry-start v ↦ omega (arith, v.if-entry-start.false)
        | else-entry-first-via-then-entry-first+else-entry-end v ↦ absurd (omega (arith, v.if-entry-end.false))
        | else-entry-first-via-else-entry-first v ↦ absurd (omega (arith, v.if-entry-first.false))
      ]))
    ]

pub returns : goal.returns
returns c =
    let s = c.args.self.now in
    let es = s.entries.records in
    let l = c.loop-entry in
    let all = ap length c.as_slice-entry-items.ensures in
    clash_answered (list_stamps s.keys es) c.args.start c.args.first c.args.count l.lowest (omega arith) (looked_all s.keys es s.once c.args.start c.args.first (c.args.first + c.args.count) l.end l.lowest l.entry-index l.invariant (omega arith))
