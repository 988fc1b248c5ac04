use Rattle.std.proofs.Common.{arith, ◌∙◌}
use Rattle.records.proofs.Decodings.{decoded-laid_out, call_of-fields_of}
use Rattle.records.proofs.codec.encode.Goals as goal

pub returns-clause-back : goal.returns-clause-back
returns-clause-back c =
    rw c.lay_out.ensures (decoded-laid_out c.in_ok-of.field-0 (omega arith) (omega arith) (omega arith) (omega arith) ∙ call_of-fields_of c.args.call c.in_ok-of.field-0 c.in_ok-of.ensures)
