use Rattle.std.proofs.Common.{rules, ◌≡◌, Some, None}
use Rattle.chain.proofs.Facts.{facts, some_free, added_none, adding}
use Rattle.chain.proofs.store.ChainStoreVersionStore.add.Goals as goal

pub returns-in_err-cell-clause-after : goal.returns-in_err-cell-clause-after
returns-in_err-cell-clause-after c =
    let s = c.args.self.now in
    let none : s.unused ≡ None = search rules in
    added_none s.heads.now s.cells.now s.unused s.free (facts s) c.args.key c.args.stamp c.args.value _ c.in_ok-newest.ensures c.if-stamp-newest.false none

pub overflow_sub-self : goal.overflow_sub-self
overflow_sub-self c =
    let s = c.args.self.now in
    let some : s.unused ≡ Some c.in_ok-cell.cell = search rules in
    some_free s.heads.now s.cells.now s.unused s.free c.in_ok-cell.cell (facts s) some

pub invariant_of-self : goal.invariant_of-self
invariant_of-self c =
    let s = c.args.self.now in
    let some : s.unused ≡ Some c.in_ok-cell.cell = search rules in
    let f = (adding s.heads.now s.cells.now s.unused s.free (facts s) c.args.key c.args.stamp c.args.value _ c.in_ok-newest.ensures c.if-stamp-newest.false c.in_ok-cell.cell some _ _ _ c.push-self.ensures.rest c.push-self.ensures.head c.push-self.ensures.filled).facts in
    record { few = f.few; small = f.small; both = f.both; chains = f.sound.chains; rest = f.sound.rest; shared = f.sound.shared; held = f.sound.held; counted = f.counted; falling = f.falling }

pub returns : goal.returns
returns c =
    let s = c.args.self.now in
    let some : s.unused ≡ Some c.in_ok-cell.cell = search rules in
    let a = (adding s.heads.now s.cells.now s.unused s.free (facts s) c.args.key c.args.stamp c.args.value _ c.in_ok-newest.ensures c.if-stamp-newest.false c.in_ok-cell.cell some _ _ _ c.push-self.ensures.rest c.push-self.ensures.head c.push-self.ensures.filled) in
    record { answer = a.answer; after = a.after }
