-- What heads and cells mean as a version store.
use Rattle.std.specs.Prelude.{◌≡◌, ℕ, ◌+◌, ◌≤◌, if◌then◌else◌, List, map, length, None, Ok, Err, Option, Result, ◌==◌, slice_index_or}
use Rattle.std.specs.Result.{result_and}
use Rattle.refusals.specs.Results.{result_map, result_map_err}
use Rattle.versions.specs.Stores.{Revision, Store, sum_below, key_check, AreFalling, kept, pruned, pruned_count, sizes_check}
use Rattle.versions.specs.declared.fault.StoreFault.{StoreFault}
use Rattle.chain.specs.declared.fault.ChainFault.{ChainFault}
use Rattle.chain.specs.declared.fault.ChainFault.TheVariants.{Sizes, Heads}
use Rattle.chain.specs.declared.cell.Cell.{Cell}
use Rattle.chain.specs.Links.{list_from, Ends, times, version_at}

-- the cells of a key's versions, newest first
abbrev pub chain_of : List (Option ℕ) → List Cell → ℕ → List ℕ
chain_of heads cells k = list_from cells (slice_index_or heads k None)

abbrev pub chain_versions : List (Option ℕ) → List Cell → ℕ → List Revision
chain_versions heads cells k = map (version_at cells) (chain_of heads cells k)

abbrev pub store_of_chains : List (Option ℕ) → List Cell → Store
store_of_chains heads cells =
    record { keys = length heads; cells = length cells; versions = chain_versions heads cells }

-- every chain ends
abbrev pub ChainsEnd : List (Option ℕ) → List Cell → Type 0
ChainsEnd heads cells = (k : ℕ) → Ends cells (slice_index_or heads k None)

-- no cell stands twice in the chains of the keys and the list of unused cells
abbrev pub ShareNone : List (Option ℕ) → List Cell → Option ℕ → Type 0
ShareNone heads cells unused =
    (i : ℕ)
    → times i (list_from cells unused) + sum_below (length heads) (λ k. times i (chain_of heads cells k)) ≤ 1

-- together they hold as many cells as there are
abbrev pub HoldAll : List (Option ℕ) → List Cell → Option ℕ → Type 0
HoldAll heads cells unused =
    length (list_from cells unused) + sum_below (length heads) (λ k. length (chain_of heads cells k)) ≡ length cells

-- how the chains and the list of unused cells lie in the cells
pub record IsWellLinked (heads : List (Option ℕ)) (cells : List Cell) (unused : Option ℕ) : Type 0 where
  pub chains : ChainsEnd heads cells
  pub rest : Ends cells unused
  pub shared : ShareNone heads cells unused
  pub held : HoldAll heads cells unused

-- what a prune of all chains leaves of the cells, and of the link to the unused ones, with so many cells given back
pub record IsPruned (horizon : ℕ) (heads : List (Option ℕ)) (cells left : List Cell) (spare : Option ℕ) (freed : ℕ) : Type 0 where
  pub sound : IsWellLinked heads left spare
  pub falling : AreFalling (chain_versions heads left)
  pub after : store_of_chains heads left ≡ pruned (store_of_chains heads cells) horizon
  pub count : freed ≡ pruned_count (store_of_chains heads cells) horizon
  pub fewer : kept (store_of_chains heads left) + freed ≡ kept (store_of_chains heads cells)

-- where a key's chain begins
abbrev pub head_answer : List (Option ℕ) → ℕ → Result (Option ℕ) StoreFault
head_answer heads k = result_map (λ _. slice_index_or heads k None) (key_check (length heads) k)

-- set-up: the sizes, as of every store, then the heads
abbrev pub chain_check : ℕ → ℕ → ℕ → Result (Unit {0}) ChainFault
chain_check keys heads cells =
    result_and (result_map_err Sizes (sizes_check keys cells))
    (if heads == keys then Ok tt else Err (Heads heads))
