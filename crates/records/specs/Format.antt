-- The records of a call file: 20 bytes each.
use Rattle.std.specs.Prelude.{ℕ, Bool, if◌then◌else◌, ◌&&◌, List, [], ◌∷◌, ◌++◌, length, Some, None, Option, ◌==◌, slice_index}
use Rattle.std.specs.Bool.{then_some}
use Rattle.std.specs.Option.{option_map}
use Rattle.std.specs.Int.{w16, w32, w64, from_le_bytes, to_le_bytes}
use Rattle.std.specs.List.{slice_range}
use Rattle.ledger.specs.declared.Kind.TheVariants.{Reader, Updater}
use Rattle.ledger.specs.declared.Call.{Call}
use Rattle.ledger.specs.declared.Call.TheVariants.{Begin, Read, Total, Write, Commit, Abort, Reclaim}
use Rattle.records.specs.declared.codec.Fields.{Fields}

-- The fields

abbrev pub with_fields : ℕ → ℕ → ℕ → ℕ → ℕ → Fields
with_fields kind key count handle value =
    record { kind = kind; key = key; count = count; handle = handle; value = value }

-- the fields in the bytes of a record, the low byte of each first
abbrev pub fields_in : List ℕ → Fields
fields_in b = record {
  kind = slice_index b 0;
  key = from_le_bytes w16 (slice_range b 2 4);
  count = from_le_bytes w16 (slice_range b 4 6);
  handle = from_le_bytes w32 (slice_range b 8 12);
  value = from_le_bytes w64 (slice_range b 12 20);
}

-- twenty bytes, and zero where no field stands
abbrev pub is_record : List ℕ → Bool
is_record b = length b == 20 && (slice_index b 1 == 0 && (slice_index b 6 == 0 && slice_index b 7 == 0))

-- Decoding

-- the call that the fields say; none where a field that it does not use is not zero
abbrev pub call_of : Fields → Option Call
call_of f =
    if f.kind == 1 then then_some (f.key == 0 && (f.count == 0 && (f.handle == 0 && f.value == 0))) (Begin Reader)
    else if f.kind == 2 then then_some (f.key == 0 && (f.count == 0 && (f.handle == 0 && f.value == 0))) (Begin Updater)
    else if f.kind == 3 then then_some (f.value == 0) (Read f.handle f.key f.count)
    else if f.kind == 4 then then_some (f.count == 0) (Write f.handle f.key f.value)
    else if f.kind == 5 then then_some (f.key == 0 && (f.count == 0 && f.value == 0)) (Commit f.handle)
    else if f.kind == 6 then then_some (f.key == 0 && (f.count == 0 && f.value == 0)) (Abort f.handle)
    else if f.kind == 7 then then_some (f.key == 0 && (f.count == 0 && (f.handle == 0 && f.value == 0))) Reclaim
    else None

-- the call that a record asks for; none where it is malformed
abbrev pub decoded : List ℕ → Option Call
decoded b = if is_record b then call_of (fields_in b) else None

-- Encoding

-- the record with these fields
abbrev pub laid_out : Fields → List ℕ
laid_out f =
    (f.kind ∷ 0 ∷ []) ++ (to_le_bytes w16 f.key ++ (to_le_bytes w16 f.count
    ++ ((0 ∷ 0 ∷ []) ++ (to_le_bytes w32 f.handle ++ to_le_bytes w64 f.value))))

-- the fields of the record that asks for a call; a total has no record
abbrev pub fields_of : Call → Option Fields
fields_of (Begin Reader) = Some (with_fields 1 0 0 0 0)
fields_of (Begin Updater) = Some (with_fields 2 0 0 0 0)
fields_of (Read h k n) = Some (with_fields 3 k n h 0)
fields_of (Total h k n s) = None
fields_of (Write h k x) = Some (with_fields 4 k 0 h x)
fields_of (Commit h) = Some (with_fields 5 0 0 h 0)
fields_of (Abort h) = Some (with_fields 6 0 0 h 0)
fields_of Reclaim = Some (with_fields 7 0 0 0 0)

-- the record that asks for a call, if there is one
abbrev pub encoded : Call → Option (List ℕ)
encoded c = option_map laid_out (fields_of c)
