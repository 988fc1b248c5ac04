use Rattle.std.proofs.Common.{sym, ◌∙◌, arith, rules}
use lib.Seq.{take-set-lt}
use Rattle.std.proofs.lemmas.List.{length-take-le}
use Rattle.transaction_table.specs.View.{writes_of}
use Rattle.transaction_table.proofs.Writes.{written_push, stands, unwritten}
use Rattle.transaction_table.proofs.lists.write_list.Bounded+Write+MAX_WRITES.put.Goals as goal

pub returns-in-Some : goal.returns-in-Some
returns-in-Some c =
    let w = c.args.self.now in
    let s = stands (writes_of w) c.args.write.key c.in-Some.i c.in-Some.ensures in
    let n = length-take-le w.len w.items (omega arith) in
    record {
      answer = rw s.there;
      after = rw s.there (take-set-lt w.len w.items c.in-Some.i _ (omega (arith, s.within)) ∙ sym (s.over c.args.write.value));
      refusal = search rules;
    }

pub returns : goal.returns
returns c =
    let ws = writes_of c.args.self.now in
    let none = unwritten ws c.args.write.key c.in_default.ensures in
    let e = c.push.ensures in
    record { answer = e.answer ∙ rw none; after = e.after ∙ rw (none, written_push ws c.args.write.key c.args.write.value none); refusal = e.refusal }
