-- What a chain store means, and what an add makes of it.
use Rattle.std.proofs.Common.{◌≡◌, ℕ, suc, ◌<◌, cond, eqb, List, [], ◌∷◌, map, length, get_or, set, Some, None, Option, refl, ap, ◌∙◌, subst, ⊎_elim, arith}
use Rattle.std.proofs.lemmas.List.{length-set, get_or-set_same}
use Rattle.std.proofs.lemmas.Grind.{common_steps}
use Rattle.std.proofs.lemmas.Bool.{cases_eq, eq-eqb, ne_eqb}
use Rattle.versions.specs.Stores.{as_of, newest, with_version, AreFalling, Revision}
use Rattle.versions.proofs.Meanings.{store_same, falls_more}
use Rattle.chain.specs.declared.cell.Cell.{Cell}
use Rattle.chain.specs.Links.{cell_at, cleared, list_from, version_at, version_of, first_below, content_of}
use Rattle.chain.specs.Store.{chain_of, chain_versions, store_of_chains, IsWellLinked}
use Rattle.chain.proofs.Tallies.{times_self}
use Rattle.chain.proofs.Chains.{list_step, versions_other}
use Rattle.chain.proofs.Holdings.{with_list, IsHeld, held_from_sound, settled, held_add, not_in_chain}

-- the newest version below a tick is that of the first cell below it
pub as_of_first : (tick : ℕ) (cells : List Cell) (is : List ℕ) → version_of cells (first_below tick cells is) ≡ as_of tick (map (version_at cells) is)
as_of_first tick cells [] = refl
as_of_first tick cells (i ∷ is) = grind (arith, common_steps, as_of_first tick cells is)

module _ (heads : List (Option ℕ)) (cells : List Cell) (k i : ℕ) (x : Cell) where
  -- a cell taken from the unused ones and put in front of one key's chain
  pub record IsAdded (unused : Option ℕ) : Type 0 where
    pub low : i < length cells
    pub sound : IsWellLinked (set heads k (Some i)) (set cells i x) (cell_at cells i).next
    pub versions : (j : ℕ) → chain_versions (set heads k (Some i)) (set cells i x) j ≡ cond (eqb k j) (content_of x ∷ chain_versions heads cells j) (chain_versions heads cells j)
    pub spare : length (list_from cells unused) ≡ suc (length (list_from (set cells i x) (cell_at cells i).next))

  pub adds : (unused : Option ℕ) → IsWellLinked heads cells unused → unused ≡ Some i → k < length heads → x.next ≡ get_or heads k None → IsAdded unused
  adds unused s is known next =
      let pruning_on = list_step cells unused i is s.rest in
      let us = list_from cells (cell_at cells i).next in
      let chains = chain_of heads cells in
      let held : IsHeld heads cells chains unused (i ∷ us) None [] = subst (λ (r : List ℕ). IsHeld heads cells chains unused r None []) pruning_on.list (held_from_sound heads cells unused s) in
      let after = settled (set heads k (Some i)) (set cells i x) (with_list k (i ∷ chains k) chains) (cell_at cells i).next us (held_add heads cells chains unused i us k x known next held) in
      let self = times_self i us in
      let other : (j : ℕ) → map (version_at (set cells i x)) (chains j) ≡ chain_versions heads cells j = λ j. versions_other cells i x (chains j) (not_in_chain heads cells chains unused (i ∷ us) None [] held i j (omega arith)) in
      let here : version_at (set cells i x) i ≡ content_of x = rw (get_or-set_same cells i x (cleared None) pruning_on.low) refl in
      record {
        low = pruning_on.low;
        sound = after.sound;
        versions = λ j.
            ap (λ (f : ℕ → List ℕ). map (version_at (set cells i x)) (f j)) after.same
            ∙ ⊎_elim
            (λ (e : k ≡ j).
            let t = eq-eqb k j e in
            rw t (ap (λ (v : Revision). v ∷ map (version_at (set cells i x)) (chains k)) here ∙ ap (λ (vs : List Revision). content_of x ∷ vs) (other k) ∙ ap (λ (m : ℕ). content_of x ∷ chain_versions heads cells m) e))
            (λ (e : k ≡ j → ⊥). let f = ne_eqb k j e in rw f (other j))
            (cases_eq k j);
        spare = omega (arith, ap length pruning_on.list, ap length after.spare);
      }

  pub added_falls : (unused : Option ℕ) → IsAdded unused → (newest (chain_versions heads cells k)).stamp < x.stamp → AreFalling (chain_versions heads cells) → AreFalling (chain_versions (set heads k (Some i)) (set cells i x))
  added_falls unused a later falling j =
      rw (a.versions j)
      (⊎_elim
      (λ (e : k ≡ j). let t = eq-eqb k j e in rw t (falls_more (content_of x) (chain_versions heads cells j) (subst (λ (m : ℕ). (newest (chain_versions heads cells m)).stamp < x.stamp) e later) (falling j)))
      (λ (e : k ≡ j → ⊥). let f = ne_eqb k j e in rw f (falling j))
      (cases_eq k j))

  pub added_means : (unused : Option ℕ) → IsAdded unused → store_of_chains (set heads k (Some i)) (set cells i x) ≡ with_version k x.stamp x.value (store_of_chains heads cells)
  added_means unused a =
      store_same (length-set heads k (Some i)) (length-set cells i x) a.versions
