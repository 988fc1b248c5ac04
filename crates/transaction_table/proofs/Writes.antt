-- A write list: where a key stands, and one write more.
use Rattle.std.proofs.Common.{◌≡◌, ℕ, zero, suc, ◌+◌, ◌<◌, Bool, true, false, cond, eqb, List, [], ◌∷◌, ◌++◌, length, get_or, set, Some, None, sym, refl, ap, arith}
use Rattle.std.specs.List.{find, position, position_from}
use Rattle.std.specs.Option.{option_map}
use Rattle.std.proofs.lemmas.List.Recursion.{found_at}
use Rattle.std.proofs.lemmas.Option.{none-some}
use Rattle.std.proofs.lemmas.List.Quantifiers.{position-Some}
use Rattle.ledger.specs.declared.Write.{Write}
use Rattle.ledger.specs.Ledger.{own_write, written}
use Rattle.std.specs.Option.{is_some}
use Rattle.transaction_table.specs.Lists.{writes_to}
use Rattle.transaction_table.proofs.Searches.{nowhere}

pub written_push : (ws : List Write) (k v : ℕ) → own_write k ws ≡ None → written ws k v ≡ ws ++ (record { key = k; value = v } ∷ [])
written_push [] k v e = refl
written_push (u ∷ ws) k v e = go (eqb u.key k) e (written_push ws k v)
  where
    go : (b : Bool) → option_map (λ (v : Write). v.value) (cond b (Some u) (find (λ v. eqb v.key k) ws)) ≡ None → (own_write k ws ≡ None → written ws k v ≡ ws ++ (record { key = k; value = v } ∷ [])) → cond b (record { key = k; value = v } ∷ ws) (u ∷ written ws k v) ≡ u ∷ (ws ++ (record { key = k; value = v } ∷ []))
    go true q later = cc
    go false q later = ap (λ us. u ∷ us) (later q)

written_at : (ws : List Write) (i k x : ℕ) (d : Write) → i < length ws → ((j : ℕ) → j < i → eqb (get_or ws j d).key k ≡ false) → eqb (get_or ws i d).key k ≡ true → written ws k x ≡ set ws i (record { key = k; value = x })
written_at [] i k x d lt before here = absurd (omega arith)
written_at (w ∷ ws) zero k x d lt before here = rw here
written_at (w ∷ ws) (suc i) k x d lt before here = rw (before 0 (omega arith)) (ap (λ us. w ∷ us) (written_at ws i k x d (omega arith) (λ j l. before (suc j) (omega arith)) here))

-- the first write to the key stands at i
pub record StandsAt (ws : List Write) (k i : ℕ) : Type 0 where
  pub within : i < length ws
  pub there : is_some (own_write k ws) ≡ true
  pub over : (x : ℕ) → written ws k x ≡ set ws i (record { key = k; value = x })

pub stands : (ws : List Write) (k i : ℕ) → Some i ≡ position (writes_to k) ws → StandsAt ws k i
stands ws k i e =
    let d : Write = record { key = 0; value = 0 } in
    let h = position-Some (writes_to k) ws i d (sym e) in
    record { within = h.0; there = ap (λ o. is_some (option_map (λ (w : Write). w.value) o)) (found_at (find (writes_to k)) (writes_to k) Some None refl (λ _ _. refl) ws i d h.0 h.2 h.1); over = λ x. written_at ws i k x d h.0 h.2 h.1 }

unwritten_from : (ws : List Write) (k n : ℕ) → position_from (writes_to k) n ws ≡ None → own_write k ws ≡ None
unwritten_from [] k n e = refl
unwritten_from (w ∷ ws) k n e = go (eqb w.key k) e (unwritten_from ws k (n + 1))
  where
    go : (b : Bool) → cond b (Some n) (position_from (writes_to k) (n + 1) ws) ≡ None → (position_from (writes_to k) (n + 1) ws ≡ None → own_write k ws ≡ None) → option_map (λ (v : Write). v.value) (cond b (Some w) (find (λ v. eqb v.key k) ws)) ≡ None
    go true q later = absurd (none-some n (sym q))
    go false q later = later q

-- no write is to the key
pub unwritten : (ws : List Write) (k : ℕ) → None ≡ position (writes_to k) ws → own_write k ws ≡ None
unwritten ws k e = unwritten_from ws k 0 (nowhere (writes_to k) ws e)
