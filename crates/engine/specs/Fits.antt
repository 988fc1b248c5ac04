-- When a ledger tells of an engine: of its table, and of what its store and its validator mean.
use Rattle.std.specs.Prelude.{◌≡◌, ℕ, ◌<◌, ◌≤◌, if◌then◌else◌, ◌&&◌, List, [], ◌∷◌, ◌==◌, nat_lt}
use Rattle.ledger.specs.Ledger.{Limits, Version, Ledger, no_limits}
use Rattle.ledger.specs.Calls.{granule_stamp}
use Rattle.ledger.specs.Reach.{IsReached}
use Rattle.versions.specs.Stores.{Store, Revision}
use Rattle.validation.specs.Stamps.{Stamps, stamp_at}
use Rattle.transaction_table.specs.declared.table.TransactionTable.{TransactionTable}
use Rattle.engine.specs.declared.engine.TheConstants.{LAST_TICK}
use Rattle.transaction_table.specs.View.{active_of}
use Rattle.transaction_table.specs.Shuffle.{IsShuffle}

-- the limits of an engine with this last tick; none where its check refused, and the last tick is 0
abbrev pub limits_of : ℕ → Store → Stamps → Limits
limits_of last s v = if last == 0 then no_limits else record { keys = s.keys; cells = s.cells; last = last; granule = v.granule }

-- a version as a store has it
abbrev pub as_revision : Version → Revision
as_revision v = record { stamp = v.stamp; value = v.value }

-- the present versions of a key, newest first
abbrev pub revisions_of : ℕ → List Version → List Revision
revisions_of k [] = []
revisions_of k (v ∷ vs) =
    if v.key == k && v.present then as_revision v ∷ revisions_of k vs
    else revisions_of k vs

-- a granule's stamp after a trim
abbrev pub kept_stamp : ℕ → ℕ → ℕ
kept_stamp trim s = if nat_lt s trim then 0 else s

-- what store and validator have of the ledger's versions
pub record Holds (l : Ledger) (s : Store) (v : Stamps) : Type 0 where
  pub same_keys : v.keys ≡ s.keys
  -- the store's lists are the present versions
  pub revisions : (k : ℕ) → k < s.keys → s.versions k ≡ revisions_of k l.versions
  -- the stamp of a granule is its latest commit tick, or 0 where there is none or a trim lay above it
  pub stamps : (k : ℕ) → k < s.keys → stamp_at v k ≡ kept_stamp l.trimmed_at (granule_stamp v.granule k l.versions)

pub record Fits (l : Ledger) (t : TransactionTable) (s : Store) (v : Stamps) : Type 0 where
  -- calls on a new ledger lead to this one
  pub reached : IsReached l
  pub ticks : t.last ≤ LAST_TICK
  pub limits : l.limits ≡ limits_of t.last s v
  pub clock : l.clock ≡ t.clock
  pub active : IsShuffle l.active (active_of t.records)
  -- where the check accepted
  pub holds : 0 < t.last → Holds l s v
