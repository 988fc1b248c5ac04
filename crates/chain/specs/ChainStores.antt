-- What a chain store shows, and that every one is lawful.
use Rattle.std.specs.Prelude.{ℕ, List, Option}
use Rattle.versions.specs.Stores.{Store, IsLawfulStore}
use Rattle.chain.specs.declared.cell.Cell.{Cell}
use Rattle.chain.specs.declared.store.ChainStore.{ChainStore}
use Rattle.chain.specs.Store.{store_of_chains, IsWellLinked}
use Rattle.chain.specs.Laws.{chain_lawful}

-- where each key's chain begins
abbrev pub heads_of : ChainStore → List (Option ℕ)
heads_of s = s.heads.now

abbrev pub cells_of : ChainStore → List Cell
cells_of s = s.cells.now

-- where the chain of the unused cells begins
abbrev pub unused_of : ChainStore → Option ℕ
unused_of s = s.unused

abbrev pub chain_meaning : ChainStore → Store
chain_meaning s = store_of_chains (heads_of s) (cells_of s)

pub store_lawful : (s : ChainStore) → IsLawfulStore (chain_meaning s)
store_lawful s =
    let sound : IsWellLinked s.heads.now s.cells.now s.unused =
    record { chains = s.chains; rest = s.rest; shared = s.shared; held = s.held } in
    chain_lawful s.heads.now s.cells.now s.unused s.few s.small s.both sound s.falling
