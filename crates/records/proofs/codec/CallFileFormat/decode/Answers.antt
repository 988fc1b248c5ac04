use Rattle.std.proofs.Common.{◌∙◌, ◌≡◌, sym, List, ℕ, length, arith}
use Rattle.records.proofs.Decodings.{value_bytes, twenty, decoded_fields, whole}
use Rattle.records.proofs.codec.CallFileFormat.decode.Goals as goal

pub returns : goal.returns
returns c =
    let b : List ℕ = c.args.bytes.now in
    let w : (c.in_ok-ok.field-0 ≡ value_bytes b) × (length (value_bytes b) ≡ 8) = whole (value_bytes b) c.in_ok-ok.field-0 c.try_into.result c.try_into.ensures.1 (sym c.ok.ensures.value ∙ c.in_ok-ok.was) in
    let read = decoded_fields b (twenty b w.1) (omega arith) (omega arith) (omega arith) in
    c.call.ensures ∙ rw (c.from_le_bytes.ensures, c.from_le_bytes-2.ensures, c.from_le_bytes-3.ensures, c.from_le_bytes-4.ensures, w.0) read
