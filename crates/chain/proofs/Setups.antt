-- A store just made: all its cells are unused.
use Rattle.std.proofs.Common.{◌≡◌, ℕ, zero, suc, ◌+◌, ◌<◌, ◌≤◌, true, false, eqb, List, [], ◌∷◌, ◌++◌, length, get_or, take, set, replicate, is_err, Some, None, Ok, Option, sym, refl, ap, ◌∙◌, add-one, arith}
use Rattle.std.proofs.lemmas.List.{take_more_set, length_push, length-replicate, get_or_append_left, get_or_at}
use Rattle.std.specs.Result.{is_ok}
use Rattle.std.proofs.lemmas.Grind.{common_steps}
use Rattle.stamped.specs.declared.TheConstants.{MAX_KEYS}
use Rattle.versions.specs.declared.store.TheConstants.{MAX_CELLS}
use Rattle.versions.specs.Stores.{empty, new_store, sizes_check}
use Rattle.versions.proofs.Meanings.{store_same, set_up_limits}
use Rattle.versions.proofs.Lists.{sum_none}
use Rattle.chain.specs.declared.cell.Cell.{Cell}
use Rattle.chain.specs.Links.{cell_at, cleared, times, HasNoRepeat, before, laid}
use Rattle.chain.specs.Store.{chain_versions, store_of_chains, chain_check}
use Rattle.chain.proofs.Chains.{IsChain}
use Rattle.chain.proofs.Holdings.{IsHeld, settled}
use Rattle.chain.specs.Laws.{kept_and_unused}
use Rattle.chain.proofs.Facts.{IsChainStore}

length_laid : (n : ℕ) → length (laid n) ≡ n
length_laid zero = refl
length_laid (suc n) = omega (arith, length_push (laid n) (cleared (before n)), length_laid n)

-- the indices below n, the last one first
abbrev downs : ℕ → List ℕ
downs zero = []
downs (suc n) = n ∷ downs n

length_downs : (n : ℕ) → length (downs n) ≡ n
length_downs zero = refl
length_downs (suc n) = omega (arith, length_downs n)

times_downs : (i n : ℕ) → n ≤ i → times i (downs n) ≡ 0
times_downs i zero past = refl
times_downs i (suc n) past = grind (arith, common_steps, times_downs i n)

once_downs : (n : ℕ) → HasNoRepeat (downs n)
once_downs zero i = omega arith
once_downs (suc n) i = grind (arith, common_steps, times_downs n n, once_downs n i)

-- a chain does not see a cell more
chain_append : (cells : List Cell) (x : Cell) (link : Option ℕ) (is : List ℕ) → IsChain cells link is → IsChain (cells ++ x ∷ []) link is
chain_append cells x link [] c = c
chain_append cells x link (i ∷ is) c = (
  c.0,
  omega (arith, c.1, length_push cells x),
  rw (get_or_append_left cells (x ∷ []) (cleared None) i c.1) (chain_append cells x (cell_at cells i).next is c.2),
)

chain_laid : (n : ℕ) → IsChain (laid n) (before n) (downs n)
chain_laid zero = refl
chain_laid (suc n) = (
  refl,
  omega (arith, length_laid (suc n)),
  rw (get_or_at (laid n) (cleared (before n)) [] (cleared None) n (length_laid n)) (chain_append (laid n) (cleared (before n)) (before n) (downs n) (chain_laid n)),
)

abbrev no_heads : ℕ → List (Option ℕ)
no_heads keys = replicate keys None

no_head : (keys k : ℕ) → get_or (no_heads keys) k None ≡ None
no_head keys k = grind (arith, common_steps)

held_laid : (keys n : ℕ) → IsHeld (no_heads keys) (laid n) (λ k. []) (before n) (downs n) None []
held_laid keys n =
    record {
      keyed = no_head keys;
      spare = chain_laid n;
      going = refl;
      once = λ i. omega (arith, once_downs n i, sum_none (length (no_heads keys)));
      whole = omega (arith, length_downs n, length_laid n, sum_none (length (no_heads keys)));
    }

versions_laid : (keys n k : ℕ) → chain_versions (no_heads keys) (laid n) k ≡ []
versions_laid keys n k = rw (no_head keys k) refl

laid_means : (keys n : ℕ) → store_of_chains (no_heads keys) (laid n) ≡ empty keys n
laid_means keys n =
    store_same (length-replicate {A = Option ℕ} keys None) (length_laid n) (versions_laid keys n)

facts_laid : (keys n : ℕ) → keys ≤ MAX_KEYS → n ≤ MAX_CELLS → eqb keys 0 ≡ eqb n 0 → IsChainStore (no_heads keys) (laid n) (before n) n
facts_laid keys n few small both =
    let s = settled (no_heads keys) (laid n) (λ k. []) (before n) (downs n) (held_laid keys n) in
    record {
      few = omega (arith, few, length-replicate {A = Option ℕ} keys None);
      small = omega (arith, small, length_laid n);
      both = ap (λ (m : ℕ). eqb m 0) (length-replicate {A = Option ℕ} keys None) ∙ both ∙ ap (λ (m : ℕ). eqb m 0) (sym (length_laid n));
      sound = s.sound;
      counted = omega (arith, ap length s.spare, length_downs n, kept_and_unused (no_heads keys) (laid n) (before n) s.sound);
      falling = λ k. rw (versions_laid keys n k) refl;
    }

-- one cell more is linked
pub laid_more : (cells : List Cell) (i : ℕ) (unused : Option ℕ) → i < length cells → unused ≡ before i → take i cells ≡ laid i → (Some i ≡ before (i + 1)) × (take (i + 1) (set cells i (cleared unused)) ≡ laid (i + 1))
laid_more cells i unused low is front =
    let one = add-one i in
    rw one (
      refl,
      rw (← one) (take_more_set cells i (cleared unused) low) ∙ ap (λ (cs : List Cell). cs ++ cleared unused ∷ []) front ∙ ap (λ (u : Option ℕ). laid i ++ cleared u ∷ []) is,
    )

-- what the check has seen to
pub record PassesSetUp (keys heads cells : ℕ) : Type 0 where
  pub answer : chain_check keys heads cells ≡ Ok tt
  pub heads_keys : heads ≡ keys
  pub sizes : is_ok (sizes_check keys cells) ≡ true

pub set_up_passed : (keys heads cells : ℕ) → is_err (chain_check keys heads cells) ≡ false → PassesSetUp keys heads cells
set_up_passed keys heads cells ok = record {
  answer = grind (arith, common_steps);
  heads_keys = grind (arith, common_steps);
  sizes = grind (arith, common_steps);
}

-- a store just made, as the calls that clear its heads and link its cells tell it
pub record IsMade (keys h n : ℕ) (heads : List (Option ℕ)) (cells : List Cell) (unused : Option ℕ) : Type 0 where
  pub facts : IsChainStore heads cells unused (length cells)
  pub empty : store_of_chains heads cells ≡ new_store (chain_check keys h n) keys n

pub making : (keys h n : ℕ) (heads : List (Option ℕ)) (cells : List Cell) (unused : Option ℕ) → is_err (chain_check keys h n) ≡ false → heads ≡ no_heads h → cells ≡ laid n → unused ≡ before n → IsMade keys h n heads cells unused
making keys h n heads cells unused ok is-heads is-cells is-unused =
    let p = set_up_passed keys h n ok in
    let limits = set_up_limits keys n p.sizes in
    let long : length cells ≡ n = ap length is-cells ∙ length_laid n in
    let e : heads ≡ no_heads keys = is-heads ∙ ap no_heads p.heads_keys in
    let f = facts_laid keys n limits.few_keys limits.few_cells limits.both in
    record {
      facts = rw (long, e, is-cells, is-unused) f;
      empty = rw (e, is-cells, p.answer) (laid_means keys n);
    }
