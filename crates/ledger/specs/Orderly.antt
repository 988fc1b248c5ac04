-- What holds of every ledger that calls lead to.
use Rattle.std.specs.Prelude.{◌≡◌, ℕ, ◌+◌, ◌<◌, ◌≤◌, true, false, List, [], ◌∷◌, length, ◌≢◌}
use Rattle.std.specs.List.{AllByRecursion}
use Rattle.ledger.specs.declared.TheConstants.{MAX_ACTIVE, MAX_READS, MAX_WRITES}
use Rattle.ledger.specs.declared.Write.{Write}
use Rattle.ledger.specs.Ledger.{Limits, Transaction, Version, Ledger, handle_of, is_reader, dead, present_count}

-- each element is so to each behind it
abbrev pub AllPairsByRecursion : {X : Type 0} → (X → X → Type 0) → List X → Type 0
AllPairsByRecursion R [] = Unit {0}
AllPairsByRecursion R (x ∷ xs) = AllByRecursion (R x) xs × AllPairsByRecursion R xs

-- no two have one handle
abbrev pub AreApart : List Transaction → Type 0
AreApart ts = AllPairsByRecursion (λ t u. handle_of u ≢ handle_of t) ts

-- no two writes are of one key
abbrev pub AreDistinct : List Write → Type 0
AreDistinct ws = AllPairsByRecursion (λ w u. u.key ≢ w.key) ws

-- a transaction that began at a tick drawn, its lists within their limits and its keys in the table
pub record IsWellFormed (n : Limits) (clock : ℕ) (t : Transaction) : Type 0 where
  pub above_zero : 0 < t.start
  pub drawn : t.start ≤ clock
  pub few_reads : length t.reads ≤ MAX_READS
  pub few_writes : length t.writes ≤ MAX_WRITES
  pub ranges : AllByRecursion (λ r. (0 < r.count) × (r.first + r.count ≤ n.keys)) t.reads
  pub keys : AllByRecursion (λ w. w.key < n.keys) t.writes
  pub distinct : AreDistinct t.writes
  pub reads_only : is_reader t.kind ≡ true → (t.reads ≡ []) × (t.writes ≡ [])

-- the active transactions: each in order, no two with one handle, no more than may be
pub record IsSound (l : Ledger) : Type 0 where
  pub fine : AllByRecursion (IsWellFormed l.limits l.clock) l.active
  pub apart : AreApart l.active
  pub few : length l.active ≤ MAX_ACTIVE

-- newest first
abbrev pub AreNewestFirst : List Version → Type 0
AreNewestFirst vs = AllPairsByRecursion (λ v w. w.stamp ≤ v.stamp) vs

-- no two versions of one key have one stamp
abbrev pub AreStrictPerKey : List Version → Type 0
AreStrictPerKey vs = AllPairsByRecursion (λ v w. w.key ≡ v.key → w.stamp < v.stamp) vs

-- the clock within its limit; stamps above 0 and at most the clock, of keys of the table, newest first, each key's strictly falling
pub record IsDated (l : Ledger) : Type 0 where
  pub ticks : l.clock ≤ l.limits.last
  pub above_zero : AllByRecursion (λ v. 0 < v.stamp) l.versions
  pub stamps : AllByRecursion (λ v. v.stamp ≤ l.clock) l.versions
  pub keys : AllByRecursion (λ v. v.key < l.limits.keys) l.versions
  pub falling : AreNewestFirst l.versions
  pub strict : AreStrictPerKey l.versions
  -- a start is no stamp
  pub unlike : AllByRecursion (λ t. AllByRecursion (λ v. v.stamp ≢ t.start) l.versions) l.active

-- what reclaims leave: removed versions are dead, present ones have a cell each, and no stamp is trimmed that an active updater needs
pub record IsSafelyReclaimed (l : Ledger) : Type 0 where
  pub removed : AllByRecursion (λ v. v.present ≡ false → dead l v ≡ true) l.versions
  pub cells : present_count l ≤ l.limits.cells
  -- no stamp that an active updater could clash with is trimmed away
  pub trims : AllByRecursion (λ t. is_reader t.kind ≡ false → l.trimmed_at ≤ t.start) l.active
  pub trimmed_by : l.trimmed_at ≤ l.clock + 1

-- what holds of every ledger that calls lead to
pub record IsOrderly (l : Ledger) : Type 0 where
  pub sound : IsSound l
  pub dated : IsDated l
  pub safe : IsSafelyReclaimed l
