-- The keys' chains, the unused cells and the cells that are just going back, and how cells go from one to the other.
use Rattle.std.proofs.Common.{◌≡◌, ℕ, ◌+◌, ◌<◌, ◌≤◌, cond, eqb, List, [], ◌∷◌, map, length, get_or, set, Some, None, Option, sym, refl, ap, ◌∙◌, subst, ⊎_elim, arith}
use mathlib.Core.Path.{fun_ext}
use Rattle.std.proofs.lemmas.List.{length-set, length-append, get_or-set_same, get_or-set_other, get_or_past}
use Rattle.std.proofs.lemmas.Grind.{common_steps}
use Rattle.std.proofs.lemmas.Bool.{cases_eq, eq-eqb, ne_eqb}
use Rattle.versions.specs.Stores.{sum_below}
use Rattle.versions.proofs.Lists.{sum_change}
use Rattle.chain.specs.declared.cell.Cell.{Cell}
use Rattle.chain.specs.Links.{cell_at, cleared, list_from, Ends, times, HasNoRepeat, version_at, first_below, link_behind, ended_at, given_back}
use Rattle.chain.specs.Store.{chain_of, IsWellLinked}
use Rattle.chain.proofs.Tallies.{times_cons, times_self, times_append, sum_has, sum_two}
use Rattle.chain.proofs.Chains.{IsChain, chain_from_walk, walk_from_chain, chain_none, chain_other, chain_push, upto, past_below, upto_past_below, first_stands, length_ended, chain_ended_other, chain_upto, chain_beyond, versions_other}

-- lists by key, with that of one key changed
abbrev pub with_list : ℕ → List ℕ → (ℕ → List ℕ) → ℕ → List ℕ
with_list k is lists j = cond (eqb k j) is (lists j)

with_list_cases : (P : ℕ → List ℕ → Type 0) (k : ℕ) (is : List ℕ) (lists : ℕ → List ℕ) → P k is → ((j : ℕ) → (k ≡ j → ⊥) → P j (lists j)) → (j : ℕ) → P j (with_list k is lists j)
with_list_cases P k is lists here there j =
    ⊎_elim
    (λ (e : k ≡ j). let t = eq-eqb k j e in rw t (subst (λ (i : ℕ). P i is) e here))
    (λ (e : k ≡ j → ⊥). let f = ne_eqb k j e in rw f (there j e))
    (cases_eq k j)

pub with_list_same : (k : ℕ) (is : List ℕ) (lists : ℕ → List ℕ) → with_list k is lists k ≡ is
with_list_same k is lists = grind (arith, common_steps)

pub with_list_other : (k : ℕ) (is : List ℕ) (lists : ℕ → List ℕ) (j : ℕ) → (k ≡ j → ⊥) → with_list k is lists j ≡ lists j
with_list_other k is lists j apart = grind (arith, common_steps)

-- the sum over the lists after one has changed
sum_with : (f : List ℕ → ℕ) (n k : ℕ) (is : List ℕ) (lists : ℕ → List ℕ) → k < n → sum_below n (λ j. f (with_list k is lists j)) + f (lists k) ≡ sum_below n (λ j. f (lists j)) + f is
sum_with f n k is lists low =
    sum_change n (λ j. f (lists j)) (λ j. f (with_list k is lists j)) k low (λ j apart. ap f (with_list_other k is lists j apart))
    ∙ ap (λ (r : List ℕ). sum_below n (λ j. f (lists j)) + f r) (with_list_same k is lists)

-- the chain of each key, the unused cells from one link on, and the loose ones from another
pub record IsHeld (heads : List (Option ℕ)) (cells : List Cell) (chains : ℕ → List ℕ) (unused : Option ℕ) (us : List ℕ) (loose : Option ℕ) (ls : List ℕ) : Type 0 where
  pub keyed : (k : ℕ) → IsChain cells (get_or heads k None) (chains k)
  pub spare : IsChain cells unused us
  pub going : IsChain cells loose ls
  pub once : (i : ℕ) → (times i ls + times i us) + sum_below (length heads) (λ k. times i (chains k)) ≤ 1
  pub whole : (length ls + length us) + sum_below (length heads) (λ k. length (chains k)) ≡ length cells

module _ (heads : List (Option ℕ)) (cells : List Cell) (chains : ℕ → List ℕ) (unused : Option ℕ) (us : List ℕ) (loose : Option ℕ) (ls : List ℕ) (held : IsHeld heads cells chains unused us loose ls) where
  -- a key that the store does not have has no chain
  none_past : (k : ℕ) → length heads ≤ k → chains k ≡ []
  none_past k past = chain_none cells (chains k) (rw (get_or_past heads k None past) at (held.keyed k))

  -- what is unused or loose is in no chain
  pub not_in_chain : (i k : ℕ) → 0 < times i ls + times i us → times i (chains k) ≡ 0
  not_in_chain i k some = grind (arith, common_steps, held.once i, sum_has (length heads) (λ j. times i (chains j)) k, none_past k)

  -- what is in one chain is in no other
  not_in_other : (i k j : ℕ) → (k ≡ j → ⊥) → 0 < times i (chains k) → times i (chains j) ≡ 0
  not_in_other i k j apart some = grind (arith, common_steps, held.once i, sum_two (length heads) (λ m. times i (chains m)) k j, none_past j, none_past k)

  chain_once : (k : ℕ) → HasNoRepeat (chains k)
  chain_once k i = grind (arith, common_steps, held.once i, sum_has (length heads) (λ j. times i (chains j)) k, none_past k)

  chain_short : (k : ℕ) → length (chains k) ≤ length cells
  chain_short k = grind (arith, common_steps, held.whole, sum_has (length heads) (λ j. length (chains j)) k, none_past k)

-- what a store's own facts hold
pub held_from_sound : (heads : List (Option ℕ)) (cells : List Cell) (unused : Option ℕ) → IsWellLinked heads cells unused → IsHeld heads cells (chain_of heads cells) unused (list_from cells unused) None []
held_from_sound heads cells unused s =
    record {
      keyed = λ k. chain_from_walk cells (length cells) (get_or heads k None) (s.chains k);
      spare = chain_from_walk cells (length cells) unused s.rest;
      going = refl;
      once = λ i. omega (arith, s.shared i);
      whole = omega (arith, s.held);
    }

pub record IsSettled (heads : List (Option ℕ)) (cells : List Cell) (chains : ℕ → List ℕ) (unused : Option ℕ) (us : List ℕ) : Type 0 where
  pub sound : IsWellLinked heads cells unused
  pub same : chain_of heads cells ≡ chains
  pub spare : list_from cells unused ≡ us

-- with nothing loose it is a store again
pub settled : (heads : List (Option ℕ)) (cells : List Cell) (chains : ℕ → List ℕ) (unused : Option ℕ) (us : List ℕ) → IsHeld heads cells chains unused us None [] → IsSettled heads cells chains unused us
settled heads cells chains unused us held =
    let each : (k : ℕ) → Ends cells (get_or heads k None) × (chain_of heads cells k ≡ chains k) = λ k. walk_from_chain cells (chains k) (length cells) (get_or heads k None) (held.keyed k) (chain_short heads cells chains unused us None [] held k) in
    let same : chain_of heads cells ≡ chains = fun_ext (λ k. (each k).1) in
    let spare = walk_from_chain cells us (length cells) unused held.spare (omega (arith, held.whole)) in
    record {
      sound = record {
        chains = λ k. (each k).0;
        rest = spare.0;
        shared = λ i. omega (arith, held.once i, ap (times i) spare.1, ap (λ (f : ℕ → List ℕ). sum_below (length heads) (λ k. times i (f k))) same);
        held = omega (arith, held.whole, ap length spare.1, ap (λ (f : ℕ → List ℕ). sum_below (length heads) (λ k. length (f k))) same);
      };
      same = same;
      spare = spare.1;
    }

-- the tail of one key's chain behind its first cell stamped below a tick becomes loose
pub held_cut : (tick : ℕ) (heads : List (Option ℕ)) (cells : List Cell) (chains : ℕ → List ℕ) (unused : Option ℕ) (us : List ℕ) (k : ℕ) → k < length heads → IsHeld heads cells chains unused us None []
    → IsHeld heads (ended_at cells (first_below tick cells (chains k))) (with_list k (upto tick cells (chains k)) chains) unused us (link_behind cells (first_below tick cells (chains k))) (past_below tick cells (chains k))
held_cut tick heads cells chains unused us k low held =
    let is = chains k in
    let o = first_below tick cells is in
    let once = chain_once heads cells chains unused us None [] held k in
    let apart : (j : ℕ) → (k ≡ j → ⊥) → (i : ℕ) → o ≡ Some i → times i (chains j) ≡ 0 = λ j ne i found. not_in_other heads cells chains unused us None [] held i k j ne (first_stands tick cells is i found) in
    let apart' : (i : ℕ) → o ≡ Some i → times i us ≡ 0 = λ i found. omega (arith, held.once i, first_stands tick cells is i found, sum_has (length heads) (λ j. times i (chains j)) k low) in
    record {
      keyed = with_list_cases (λ j js. IsChain (ended_at cells o) (get_or heads j None) js) k (upto tick cells is) chains (chain_upto tick cells (get_or heads k None) is once (held.keyed k)) (λ j ne. chain_ended_other cells o (get_or heads j None) (chains j) (apart j ne) (held.keyed j));
      spare = chain_ended_other cells o unused us apart' held.spare;
      going = chain_beyond tick cells (get_or heads k None) is once (held.keyed k);
      once = λ i. omega (arith, held.once i, sum_with (times i) (length heads) k (upto tick cells is) chains low, times_append i (upto tick cells is) (past_below tick cells is), ap (times i) (upto_past_below tick cells is));
      whole = omega (arith, held.whole, sum_with length (length heads) k (upto tick cells is) chains low, length-append (upto tick cells is) (past_below tick cells is), ap length (upto_past_below tick cells is), length_ended cells o);
    }

-- a loose cell becomes unused
held_give : (heads : List (Option ℕ)) (cells : List Cell) (chains : ℕ → List ℕ) (unused : Option ℕ) (us : List ℕ) (loose : Option ℕ) (i : ℕ) (ls : List ℕ) → IsHeld heads cells chains unused us loose (i ∷ ls)
    → IsHeld heads (set cells i (cleared unused)) chains (Some i) (i ∷ us) (cell_at cells i).next ls
held_give heads cells chains unused us loose i ls held =
    let self = times_self i ls in
    let x = cleared unused in
    record {
      keyed = λ k. chain_other cells i x (get_or heads k None) (chains k) (not_in_chain heads cells chains unused us loose (i ∷ ls) held i k (omega arith)) (held.keyed k);
      spare = chain_push cells i x us held.going.1 (omega (arith, held.once i)) held.spare;
      going = chain_other cells i x (cell_at cells i).next ls (omega (arith, held.once i)) held.going.2;
      once = λ j. omega (arith, held.once j, times_cons j i ls, times_cons j i us);
      whole = omega (arith, held.whole, length-set cells i x);
    }

-- the unused cells after all loose ones came to them
abbrev pub put_back : List ℕ → List ℕ → List ℕ
put_back [] us = us
put_back (i ∷ ls) us = put_back ls (i ∷ us)

pub length_put_back : (ls us : List ℕ) → length (put_back ls us) ≡ length ls + length us
length_put_back [] us = omega arith
length_put_back (i ∷ ls) us = omega (arith, length_put_back ls (i ∷ us))

pub record IsGivenBack (heads : List (Option ℕ)) (cells : List Cell) (chains : ℕ → List ℕ) (unused : Option ℕ) (us ls : List ℕ) : Type 0 where
  pub held : IsHeld heads (given_back cells ls unused).0 chains (given_back cells ls unused).1 (put_back ls us) None []
  pub versions : (k : ℕ) → map (version_at (given_back cells ls unused).0) (chains k) ≡ map (version_at cells) (chains k)
  pub long : length (given_back cells ls unused).0 ≡ length cells

pub held_give_all : (heads : List (Option ℕ)) (cells : List Cell) (chains : ℕ → List ℕ) (unused : Option ℕ) (us : List ℕ) (loose : Option ℕ) (ls : List ℕ) → IsHeld heads cells chains unused us loose ls → IsGivenBack heads cells chains unused us ls
held_give_all heads cells chains unused us loose [] held =
    record { held = record { keyed = held.keyed; spare = held.spare; going = refl; once = held.once; whole = held.whole }; versions = λ k. refl; long = refl }
held_give_all heads cells chains unused us loose (i ∷ ls) held =
    let x = cleared unused in
    let g = held_give_all heads (set cells i x) chains (Some i) (i ∷ us) (cell_at cells i).next ls (held_give heads cells chains unused us loose i ls held) in
    let self = times_self i ls in
    record {
      held = g.held;
      versions = λ k. g.versions k ∙ versions_other cells i x (chains k) (not_in_chain heads cells chains unused us loose (i ∷ ls) held i k (omega arith));
      long = g.long ∙ length-set cells i x;
    }

-- an unused cell goes to the front of one key's chain
pub held_add : (heads : List (Option ℕ)) (cells : List Cell) (chains : ℕ → List ℕ) (unused : Option ℕ) (i : ℕ) (us : List ℕ) (k : ℕ) (x : Cell) → k < length heads → x.next ≡ get_or heads k None → IsHeld heads cells chains unused (i ∷ us) None []
    → IsHeld (set heads k (Some i)) (set cells i x) (with_list k (i ∷ chains k) chains) (cell_at cells i).next us None []
held_add heads cells chains unused i us k x low next held =
    let self = times_self i us in
    let apart : (j : ℕ) → times i (chains j) ≡ 0 = λ j. not_in_chain heads cells chains unused (i ∷ us) None [] held i j (omega arith) in
    record {
      keyed = with_list_cases (λ j js. IsChain (set cells i x) (get_or (set heads k (Some i)) j None) js) k (i ∷ chains k) chains
          (rw (get_or-set_same heads k (Some i) None low) (chain_push cells i x (chains k) held.spare.1 (apart k) (rw next (held.keyed k))))
          (λ j ne. let ne' : j ≡ k → ⊥ = λ e. ne (sym e) in rw (get_or-set_other heads k j (Some i) None ne') (chain_other cells i x (get_or heads j None) (chains j) (apart j) (held.keyed j)));
      spare = chain_other cells i x (cell_at cells i).next us (omega (arith, held.once i)) held.spare.2;
      going = refl;
      once = λ j. rw (length-set heads k (Some i)) (omega (arith, held.once j, times_cons j i us, times_cons j i (chains k), sum_with (times j) (length heads) k (i ∷ chains k) chains low));
      whole = rw (length-set heads k (Some i)) (omega (arith, held.whole, sum_with length (length heads) k (i ∷ chains k) chains low, length-set cells i x));
    }
