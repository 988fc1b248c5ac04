-- Which commits are restarted, told from a history alone.
use Rattle.std.specs.Prelude.{ℕ, max, Bool, false, if◌then◌else◌, not, ◌&&◌, ◌||◌, List, [], ◌∷◌, ◌++◌, Some, None, Option, Ok, Result, ◌==◌}
use Rattle.std.specs.List.{find, range_with_len}
use Rattle.std.specs.Option.{option_map}
use Rattle.ledger.specs.declared.Fault.{Fault}
use Rattle.ledger.specs.declared.Verdict.TheVariants.{Restart, Full}
use Rattle.ledger.specs.declared.Done.{Done}
use Rattle.ledger.specs.Ledger.{Shortage}
use Rattle.ledger.specs.Calls.{StaleRead}
use Rattle.ledger.specs.History.{Made, Deed, commits, deed, Operation, read_range, write_key, operations, is_begin_of}

-- the keys that these operations read: the reads in their order, the keys of each rising
abbrev pub keys_read : List Operation → List ℕ
keys_read [] = []
keys_read (read_range k n how ∷ more) = range_with_len k n ++ keys_read more
keys_read (write_key k x ∷ more) = keys_read more

-- one of these operations writes into the granule of the key k
abbrev pub writes_into : (ℕ → ℕ) → ℕ → List Operation → Bool
writes_into g k [] = false
writes_into g k (read_range j n how ∷ more) = writes_into g k more
writes_into g k (write_key j x ∷ more) = g j == g k || writes_into g k more

-- the tick of a commit, if its updater wrote into the granule of the key k, else 0; the operations of each are given
abbrev pub tick_into : (ℕ → ℕ) → ℕ → (ℕ → List Operation) → Deed → ℕ
tick_into g k of (commits h t) = if writes_into g k (of h) then t else 0
tick_into g k of _ = 0

-- the greatest tick at which an updater that wrote into the granule of the key k was committed, 0 without any
abbrev pub commit_into : (ℕ → ℕ) → ℕ → List Made → ℕ
commit_into g k [] = 0
commit_into g k (m ∷ ms) = max (tick_into g k (λ h. operations h ms) (deed m)) (commit_into g k ms)

-- the deed is a commit of an updater that wrote into the granule of the key k; the operations of each are given
abbrev pub overwrites : (ℕ → ℕ) → ℕ → (ℕ → List Operation) → Deed → Bool
overwrites g k of (commits h t) = writes_into g k (of h)
overwrites g k of _ = false

-- since the transaction h began, one was committed that wrote into the granule of the key k
abbrev pub is_overwritten : (ℕ → ℕ) → ℕ → ℕ → List Made → Bool
is_overwritten g k h [] = false
is_overwritten g k h (m ∷ ms) = not (is_begin_of h (deed m)) && (overwrites g k (λ h. operations h ms) (deed m) || is_overwritten g k h ms)

-- the first of these keys that was overwritten since h began, with the greatest commit tick into its granule
abbrev pub first_overwritten : (ℕ → ℕ) → List Made → ℕ → List ℕ → Option StaleRead
first_overwritten g ms h ks =
    option_map (λ k. record { key = k; stamp = commit_into g k ms }) (find (λ k. is_overwritten g k h ms) ks)

-- what an answer names if it is a restart
abbrev pub restart_of : Result Done Fault → Option StaleRead
restart_of (Ok (Done.Ended (Restart k s))) = Some (record { key = k; stamp = s })
restart_of _ = None

-- what an answer names if it is full
abbrev pub full_of : Result Done Fault → Option Shortage
full_of (Ok (Done.Ended (Full w f))) = Some (record { writes = w; free = f })
full_of _ = None
