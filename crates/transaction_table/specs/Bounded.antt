-- A list of at most so many items.
use Prim.Native.Nat.{zero-le}
use Rattle.std.specs.Prelude.{ℕ, if◌then◌else◌, List, [], ◌∷◌, ◌++◌, length, replicate, take, Ok, Err, Result, nat_le}
use Rattle.std.specs.Result.{is_ok}
use Rattle.std.proofs.lemmas.List.{length-replicate}
use Rattle.transaction_table.specs.declared.lists.Bounded.{Bounded}
use Rattle.transaction_table.specs.declared.lists.Full.{Full}

abbrev pub held : {T : Type 0} {N : ℕ} → Bounded T N → List T
held b = take b.len b.items

-- the list without items, whose places have the filler
abbrev pub no_items : {T : Type 0} {N : ℕ} → T → Bounded T N
no_items {N = N} filler = record { len = 0; items = replicate N filler; fits = zero-le; sized = length-replicate N filler }

-- an item is taken where fewer than n are there
abbrev pub push_answer : {T : Type 0} → ℕ → List T → Result (Unit {0}) Full
push_answer n xs = if nat_le n (length xs) then Err (record {}) else Ok tt

abbrev pub pushed : {T : Type 0} → ℕ → List T → T → List T
pushed n xs x = if is_ok (push_answer n xs) then xs ++ (x ∷ []) else xs
