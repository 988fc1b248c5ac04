-- The ledger: all that answers depend on. It keeps every version that was ever committed.
use Rattle.std.specs.Prelude.{ℕ, ◌+◌, ◌-◌, min, Bool, true, false, if◌then◌else◌, not, ◌&&◌, List, [], ◌∷◌, length, Some, None, filter, find, Option, ◌==◌, nat_lt}
use Rattle.std.specs.List.{list_any}
use Rattle.std.specs.Option.{option_map}
use Rattle.ledger.specs.declared.Kind.{Kind}
use Rattle.ledger.specs.declared.Range.{Range}
use Rattle.ledger.specs.declared.Write.{Write}
use Rattle.ledger.specs.declared.Kind.TheVariants.{Reader, Updater}

-- what an engine is made with; keys are 0, 1, .. below keys, and ticks go up to last
pub record Limits : Type 0 where
  pub keys : ℕ
  pub cells : ℕ
  pub last : ℕ
  pub granule : ℕ → ℕ

-- an active transaction
pub record Transaction : Type 0 where
  -- the tick at which it began
  pub start : ℕ
  pub kind : Kind
  -- in the order made
  pub reads : List Range
  pub writes : List Write

-- a committed version, present in a cell or removed; its stamp is its writer's commit tick
pub record Version : Type 0 where
  pub key : ℕ
  pub stamp : ℕ
  pub value : ℕ
  pub present : Bool

-- what a club has: its limits, its clock, the active transactions and every version ever committed
pub record Ledger : Type 0 where
  pub limits : Limits
  -- the last tick drawn
  pub clock : ℕ
  pub active : List Transaction
  -- newest first
  pub versions : List Version
  -- the greatest tick trimmed at
  pub trimmed_at : ℕ

-- nothing has begun, and nothing is committed
abbrev pub new_ledger : Limits → Ledger
new_ledger n = record { limits = n; clock = 0; active = []; versions = []; trimmed_at = 0 }

-- an engine set up wrongly has no keys, no cells and no ticks
abbrev pub no_limits : Limits
no_limits = record { keys = 0; cells = 0; last = 0; granule = λ k. k }

-- Active transactions

-- the handle that names it: its start tick
abbrev pub handle_of : Transaction → ℕ
handle_of t = t.start

-- the tick at which the transaction with this handle began: the handle names it
abbrev pub start_of : ℕ → ℕ
start_of h = h

-- the moment that a reader reads as of: its start tick
abbrev pub moment_of : Transaction → ℕ
moment_of t = t.start

-- the active transaction with this handle
abbrev pub found : List Transaction → ℕ → Option Transaction
found ts h = find (λ t. handle_of t == h) ts

-- a reader, and no updater
abbrev pub is_reader : Kind → Bool
is_reader Reader = true
is_reader Updater = false

-- the least tick that f gives for the active transactions of these kinds, or the given tick without any
abbrev pub least_by : (Transaction → ℕ) → (Kind → Bool) → ℕ → List Transaction → ℕ
least_by f p none [] = none
least_by f p none (t ∷ ts) = if p t.kind then min (f t) (least_by f p none ts) else least_by f p none ts

-- the least start tick
abbrev pub least_start : (Kind → Bool) → ℕ → List Transaction → ℕ
least_start p none ts = least_by (λ t. t.start) p none ts

-- no active updater began before it
abbrev pub trim_tick : Ledger → ℕ
trim_tick l = least_start (λ k. not (is_reader k)) (l.clock + 1) l.active

-- Versions

-- what the active readers, and those that are to come, still look at: all moments from a tick on
abbrev pub Outlook : Type 0
Outlook = ℕ

-- no active reader reads as of a moment below it
abbrev pub outlook : Ledger → Outlook
outlook l = least_by moment_of is_reader (l.clock + 1) l.active

-- w is of the key of v, newer, and stamped below every moment of the outlook
abbrev pub is_hidden_by : Outlook → Version → Version → Bool
is_hidden_by o v w = w.key == v.key && (nat_lt v.stamp w.stamp && nat_lt w.stamp o)

-- no moment of the outlook chooses the version: it is hidden by another
abbrev pub unseen : Outlook → List Version → Version → Bool
unseen o vs v = list_any (is_hidden_by o v) vs

-- no active transaction, and none that is to come, reads it
abbrev pub dead : Ledger → Version → Bool
dead l v = unseen (outlook l) l.versions v

-- how many versions are present
abbrev pub present_count : Ledger → ℕ
present_count l = length (filter (λ v. v.present) l.versions)

-- how many versions a reclaim removes
abbrev pub dead_count : Ledger → ℕ
dead_count l = length (filter (λ v. v.present && dead l v) l.versions)

-- how many versions are not dead, in a cell or not
abbrev pub live_count : Ledger → ℕ
live_count l = length (filter (λ v. not (dead l v)) l.versions)

-- the newest value of a key stamped below a tick; 0 where there is none
abbrev pub value_below : ℕ → ℕ → List Version → ℕ
value_below k t [] = 0
value_below k t (v ∷ vs) = if v.key == k && nat_lt v.stamp t then v.value else value_below k t vs

-- the newest value of a key; 0 where there is none
abbrev pub newest_value : ℕ → List Version → ℕ
newest_value k [] = 0
newest_value k (v ∷ vs) = if v.key == k then v.value else newest_value k vs

-- Write lists

-- the value that a write list has for a key
abbrev pub own_write : ℕ → List Write → Option ℕ
own_write k ws = option_map (λ w. w.value) (find (λ w. w.key == k) ws)

-- a key already there gets the new value in its old place
abbrev pub written : List Write → ℕ → ℕ → List Write
written [] k x = record { key = k; value = x } ∷ []
written (w ∷ ws) k x = if w.key == k then record { key = k; value = x } ∷ ws else (w ∷ written ws k x)

-- Cells

-- the cells that are lacking for writes: how many are to be written, and how many cells are free
pub record Shortage : Type 0 where
  pub writes : ℕ
  pub free : ℕ

-- the shortage, if there is one, where so many of the cells are taken
abbrev pub shortage : ℕ → ℕ → ℕ → Option Shortage
shortage cells taken writes = if nat_lt (cells - taken) writes then Some (record { writes = writes; free = cells - taken }) else None
