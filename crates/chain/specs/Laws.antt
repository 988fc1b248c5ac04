-- That every chain store is lawful.
use Rattle.std.proofs.Common.{◌≡◌, ℕ, ◌+◌, ◌≤◌, eqb, List, [], length, None, Option, refl, arith}
use Rattle.std.proofs.lemmas.List.{length-map, get_or_past}
use Rattle.stamped.specs.declared.TheConstants.{MAX_KEYS}
use Rattle.versions.specs.declared.store.TheConstants.{MAX_CELLS}
use Rattle.versions.specs.Stores.{IsLawfulStore, kept, AreFalling}
use Rattle.versions.proofs.Lists.{sum_same}
use Rattle.chain.specs.declared.cell.Cell.{Cell}
use Rattle.chain.specs.Links.{list_from, version_at}
use Rattle.chain.specs.Store.{chain_of, chain_versions, store_of_chains, IsWellLinked}

-- versions and unused cells together are all cells
pub kept_and_unused : (heads : List (Option ℕ)) (cells : List Cell) (unused : Option ℕ) → IsWellLinked heads cells unused
    → kept (store_of_chains heads cells) + length (list_from cells unused) ≡ length cells
kept_and_unused heads cells unused s =
    let same = sum_same (length heads) (λ k. length (chain_versions heads cells k)) (λ k. length (chain_of heads cells k))
    (λ k low. length-map (chain_of heads cells k) (version_at cells)) in
    omega (arith, s.held, same)

pub versions_past : (heads : List (Option ℕ)) (cells : List Cell) (k : ℕ)
    → length heads ≤ k → chain_versions heads cells k ≡ []
versions_past heads cells k past = rw (get_or_past heads k None past) refl

-- what holds of every chain store
pub chain_lawful : (heads : List (Option ℕ)) (cells : List Cell) (unused : Option ℕ)
    → length heads ≤ MAX_KEYS → length cells ≤ MAX_CELLS → eqb (length heads) 0 ≡ eqb (length cells) 0
    → IsWellLinked heads cells unused → AreFalling (chain_versions heads cells) → IsLawfulStore (store_of_chains heads cells)
chain_lawful heads cells unused few small both sound falling =
    record {
      falling = falling;
      inside = versions_past heads cells;
      within_cells = omega (arith, kept_and_unused heads cells unused sound);
      few_keys = few;
      few_cells = small;
      both = both;
    }
