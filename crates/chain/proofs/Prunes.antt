-- What a prune of one chain after the other makes of a chain store.
use Rattle.std.proofs.Common.{◌≡◌, ℕ, ◌+◌, ◌<◌, ◌≤◌, List, [], ◌∷◌, map, length, Option, sym, refl, ap, ◌∙◌, subst, ⊎_elim, arith}
use Rattle.std.proofs.lemmas.Grind.{common_steps}
use Rattle.std.proofs.lemmas.Bool.{cases_eq}
use Rattle.versions.specs.Stores.{kept, survivors, pruned, AreFalling}
use Rattle.versions.proofs.Meanings.{store_same, cut, survivors_cut, falls_cut, outdated_and_kept}
use Rattle.chain.specs.declared.cell.Cell.{Cell}
use Rattle.chain.specs.Links.{list_from, Ends, times, HasNoRepeat, version_at, first_below, link_behind, ended_at, given_back}
use Rattle.chain.specs.Store.{chain_of, chain_versions, store_of_chains, IsWellLinked, IsPruned}
use Rattle.chain.proofs.Chains.{walk_from_chain, upto, past_below, length_ended, versions_ended}
use Rattle.chain.proofs.Holdings.{with_list, with_list_same, with_list_other, IsHeld, held_from_sound, settled, held_cut, held_give_all, put_back, length_put_back}
use Rattle.chain.specs.Laws.{kept_and_unused}

-- the chain up to its first cell below a tick has the versions up to the first below it
versions_upto : (tick : ℕ) (cells : List Cell) (is : List ℕ) → map (version_at cells) (upto tick cells is) ≡ cut tick (map (version_at cells) is)
versions_upto tick cells [] = refl
versions_upto tick cells (i ∷ is) = grind (arith, common_steps, versions_upto tick cells is)

-- the chains of the keys below k are pruned, the others are as they were
pub record IsPrunedUpTo (tick : ℕ) (heads : List (Option ℕ)) (old : List Cell) (spare : Option ℕ) (cells : List Cell) (unused : Option ℕ) (count k : ℕ) : Type 0 where
  pub sound : IsWellLinked heads cells unused
  pub behind : (j : ℕ) → j < k → chain_versions heads cells j ≡ survivors tick (chain_versions heads old j)
  pub ahead : (j : ℕ) → k ≤ j → chain_versions heads cells j ≡ chain_versions heads old j
  pub long : length cells ≡ length old
  pub freed : length (list_from cells unused) ≡ length (list_from old spare) + count

-- one chain is cut
module _ (tick : ℕ) (heads : List (Option ℕ)) (cells : List Cell) (unused : Option ℕ) (k : ℕ) (low : k < length heads) (s : IsWellLinked heads cells unused) where
  abbrev where_cut : Option ℕ
  where_cut = first_below tick cells (chain_of heads cells k)

  held_after_cut : IsHeld heads (ended_at cells where_cut) (with_list k (upto tick cells (chain_of heads cells k)) (chain_of heads cells)) unused (list_from cells unused) (link_behind cells where_cut) (past_below tick cells (chain_of heads cells k))
  held_after_cut = held_cut tick heads cells (chain_of heads cells) unused (list_from cells unused) k low (held_from_sound heads cells unused s)

  -- its tail, as the call tells it
  pub record IsCut (after : List Cell) (tail : Option ℕ) : Type 0 where
    pub ended : Ends after tail
    pub list : list_from after tail ≡ past_below tick cells (chain_of heads cells k)
    pub once : HasNoRepeat (list_from after tail)

  pub cut_loose : (after : List Cell) (tail : Option ℕ) → after ≡ ended_at cells where_cut → tail ≡ link_behind cells where_cut → IsCut after tail
  cut_loose after tail is_cut is-tail =
      let held = held_after_cut in
      let w = walk_from_chain (ended_at cells where_cut) (past_below tick cells (chain_of heads cells k)) (length (ended_at cells where_cut)) (link_behind cells where_cut) held.going (omega (arith, held.whole)) in
      rw (is_cut, is-tail) (record { ended = w.0; list = w.1; once = λ i. omega (arith, held.once i, ap (times i) w.1) })

-- its tail goes back, and the next key is at hand
module _ (tick : ℕ) (heads : List (Option ℕ)) (old : List Cell) (spare : Option ℕ) (cells : List Cell) (unused : Option ℕ) (count k : ℕ) (low : k < length heads) (falling : AreFalling (chain_versions heads old)) (p : IsPrunedUpTo tick heads old spare cells unused count k) where
  abbrev tail_of : List ℕ
  tail_of = past_below tick cells (chain_of heads cells k)

  abbrev left_over : List Cell × Option ℕ
  left_over = given_back (ended_at cells (where_cut tick heads cells unused k low p.sound)) tail_of unused

  pruning_step : IsPrunedUpTo tick heads old spare left_over.0 left_over.1 (count + length tail_of) (k + 1)
  pruning_step =
      let o = where_cut tick heads cells unused k low p.sound in
      let us = list_from cells unused in
      let chains = chain_of heads cells in
      let front = upto tick cells (chains k) in
      let given = held_give_all heads (ended_at cells o) (with_list k front chains) unused us (link_behind cells o) tail_of (held_after_cut tick heads cells unused k low p.sound) in
      let after = settled heads left_over.0 (with_list k front chains) left_over.1 (put_back tail_of us) given.held in
      let versions : (j : ℕ) → chain_versions heads left_over.0 j ≡ map (version_at cells) (with_list k front chains j) = λ j.
      ap (λ (f : ℕ → List ℕ). map (version_at left_over.0) (f j)) after.same ∙ given.versions j ∙ versions_ended cells o (with_list k front chains j) in
      let here : chain_versions heads left_over.0 k ≡ survivors tick (chain_versions heads old k) =
      versions k ∙ ap (map (version_at cells)) (with_list_same k front chains) ∙ versions_upto tick cells (chains k) ∙ ap (cut tick) (p.ahead k (omega arith)) ∙ sym (survivors_cut tick (chain_versions heads old k) (falling k)) in
      let other : (j : ℕ) → (k ≡ j → ⊥) → chain_versions heads left_over.0 j ≡ chain_versions heads cells j = λ j ne.
      versions j ∙ ap (map (version_at cells)) (with_list_other k front chains j ne) in
      record {
        sound = after.sound;
        behind = λ j below.
            ⊎_elim
            (λ (e : k ≡ j). subst (λ (m : ℕ). chain_versions heads left_over.0 m ≡ survivors tick (chain_versions heads old m)) e here)
            (λ (e : k ≡ j → ⊥). other j e ∙ p.behind j (omega arith))
            (cases_eq k j);
        ahead = λ j above. other j (λ e. omega arith) ∙ p.ahead j (omega arith);
        long = given.long ∙ length_ended cells o ∙ p.long;
        freed = omega (arith, ap length after.spare, length_put_back tail_of us, p.freed);
      }

  -- the same, as the two calls tell it
  pub pruning_more : (cells₁ cells₂ : List Cell) (tail link : Option ℕ) (freed : ℕ)
      → cells₁ ≡ ended_at cells (first_below tick cells (chain_of heads cells k)) → tail ≡ link_behind cells (first_below tick cells (chain_of heads cells k))
      → cells₂ ≡ (given_back cells₁ (list_from cells₁ tail) unused).0 → link ≡ (given_back cells₁ (list_from cells₁ tail) unused).1 → freed ≡ length (list_from cells₁ tail)
      → IsPrunedUpTo tick heads old spare cells₂ link (count + freed) (k + 1)
  pruning_more cells₁ cells₂ tail link freed is_cut is-tail is-back is-link is-freed =
      let tail-is = (cut_loose tick heads cells unused k low p.sound cells₁ tail is_cut is-tail).list in
      let back : given_back cells₁ (list_from cells₁ tail) unused ≡ left_over = ap (λ (ls : List ℕ). given_back cells₁ ls unused) tail-is ∙ ap (λ (cs : List Cell). given_back cs tail_of unused) is_cut in
      let e₁ : cells₂ ≡ left_over.0 = is-back ∙ ap (λ (r : List Cell × Option ℕ). r.0) back in
      let e₂ : link ≡ left_over.1 = is-link ∙ ap (λ (r : List Cell × Option ℕ). r.1) back in
      let e₃ : freed ≡ length tail_of = is-freed ∙ ap length tail-is in
      rw (e₁, e₂, e₃) pruning_step

pub pruning_all : (tick : ℕ) (heads : List (Option ℕ)) (old : List Cell) (spare : Option ℕ) (cells : List Cell) (unused : Option ℕ) (count k : ℕ) → length heads ≤ k → IsWellLinked heads old spare → AreFalling (chain_versions heads old) → IsPrunedUpTo tick heads old spare cells unused count k → IsPruned tick heads old cells unused count
pruning_all tick heads old spare cells unused count k end sound falling p =
    let versions : (j : ℕ) → chain_versions heads cells j ≡ survivors tick (chain_versions heads old j) = λ j.
    grind (arith, common_steps, p.behind j) in
    let after : store_of_chains heads cells ≡ pruned (store_of_chains heads old) tick = store_same refl p.long versions in
    let fewer : kept (store_of_chains heads cells) + count ≡ kept (store_of_chains heads old) = omega (arith, kept_and_unused heads old spare sound, kept_and_unused heads cells unused p.sound, p.freed, p.long) in
    record {
      sound = p.sound;
      falling = λ j. rw (versions j ∙ survivors_cut tick (chain_versions heads old j) (falling j)) (falls_cut tick (chain_versions heads old j) (falling j));
      after = after;
      count = omega (arith, outdated_and_kept (store_of_chains heads old) tick, ap kept after, fewer);
      fewer = fewer;
    }
