-- The fields of a record, read from its bytes.
use Rattle.std.proofs.Common.{◌≡◌, ◌≢◌, ℕ, ◌-◌, ◌<◌, ◌^◌, List, [], ◌∷◌, length, get_or, take, drop, refl, arith, length-take, length-drop, Result, Ok, Err, Option, Some, MatchResult}
use Rattle.std.specs.Result.{result_ok}
use Rattle.std.specs.Array.{IsWholeChunk}
use Rattle.std.specs.Int.{w16, w32, w64, from_le_bytes}
use Rattle.std.proofs.lemmas.Bool.{eq-eqb}
use Rattle.std.proofs.lemmas.Nat.{from_le_bytes-to_le_bytes_2, from_le_bytes-to_le_bytes_4, from_le_bytes-to_le_bytes_8}
use Rattle.ledger.specs.declared.Kind.TheVariants.{Reader, Updater}
use Rattle.ledger.specs.declared.Call.{Call}
use Rattle.ledger.specs.declared.Call.TheVariants.{Begin, Read, Total, Write, Commit, Abort, Reclaim}
use Rattle.records.specs.declared.codec.Fields.{Fields}
use Rattle.records.specs.Format.{call_of, fields_of, laid_out, with_fields, decoded}

-- the bytes behind the first twelve
abbrev pub value_bytes : List ℕ → List ℕ
value_bytes b = take (length b - 12) (drop 12 b)

pub twenty : (b : List ℕ) → length (value_bytes b) ≡ 8 → length b ≡ 20
twenty b e = omega (arith, simp (length-take, length-drop) at e)

-- a slice that became an array is as long as that, and the same
pub whole : {E : Type 0} (xs ys : List ℕ) (r : Result (List ℕ) E) → MatchResult r (λ zs. IsWholeChunk xs zs 8) (λ _. length xs ≢ 8) → result_ok r ≡ Some ys → (ys ≡ xs) × (length xs ≡ 8)
whole xs ys (Ok zs) m e = (cc m.same, m.long)
whole xs ys (Err x) m e = absurd (cc)

-- the call that the fields say, of twenty bytes with zeros where no field stands
pub decoded_fields : (b : List ℕ) → length b ≡ 20 → get_or b 1 0 ≡ 0 → get_or b 6 0 ≡ 0 → get_or b 7 0 ≡ 0 →
    call_of (with_fields (get_or b 0 0) (from_le_bytes w16 (get_or b 2 0 ∷ get_or b 3 0 ∷ [])) (from_le_bytes w16 (get_or b 4 0 ∷ get_or b 5 0 ∷ [])) (from_le_bytes w32 (get_or b 8 0 ∷ get_or b 9 0 ∷ get_or b 10 0 ∷ get_or b 11 0 ∷ [])) (from_le_bytes w64 (value_bytes b))) ≡ decoded b
decoded_fields (b0 ∷ b1 ∷ b2 ∷ b3 ∷ b4 ∷ b5 ∷ b6 ∷ b7 ∷ b8 ∷ b9 ∷ b10 ∷ b11 ∷ b12 ∷ b13 ∷ b14 ∷ b15 ∷ b16 ∷ b17 ∷ b18 ∷ b19 ∷ []) l x y z = rw (eq-eqb b1 0 x, eq-eqb b6 0 y, eq-eqb b7 0 z) refl
decoded_fields _ l x y z = absurd (omega arith)

some_same : {f g : Fields} → ◌≡◌ {A = Option Fields} (Some f) (Some g) → f ≡ g
some_same e = cc

-- fields that fit are read as they were laid out
pub decoded-laid_out : (f : Fields) → f.key < 2 ^ 16 → f.count < 2 ^ 16 → f.handle < 2 ^ 32 → f.value < 2 ^ 64 → decoded (laid_out f) ≡ call_of f
decoded-laid_out f k n h v = rw (from_le_bytes-to_le_bytes_2 f.key k, from_le_bytes-to_le_bytes_2 f.count n, from_le_bytes-to_le_bytes_4 f.handle h, from_le_bytes-to_le_bytes_8 f.value v) refl

-- the fields of a call's record say the call
pub call_of-fields_of : (c : Call) (f : Fields) → Some f ≡ fields_of c → call_of f ≡ Some c
call_of-fields_of (Begin Reader) f e = rw (some_same e) refl
call_of-fields_of (Begin Updater) f e = rw (some_same e) refl
call_of-fields_of (Read h k n) f e = rw (some_same e) refl
call_of-fields_of (Total h k n s) f e = cc
call_of-fields_of (Write h k x) f e = rw (some_same e) refl
call_of-fields_of (Commit h) f e = rw (some_same e) refl
call_of-fields_of (Abort h) f e = rw (some_same e) refl
call_of-fields_of Reclaim f e = rw (some_same e) refl
