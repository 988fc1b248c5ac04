-- What is shown of the club: one moment of it.
use Rattle.std.specs.Prelude.{◌≡◌, ℕ, ◌-◌, ◌%◌, ◌^◌, false, List, map, sum}
use Rattle.ledger.specs.Ledger.{Limits, start_of}
use Rattle.std.specs.List.{range_with_len}
use Rattle.ledger.specs.Figures.{least_of}
use Rattle.ledger.specs.History.{Made, after, updater_in}
use Rattle.ledger.specs.Serial.{Table, table}
use Rattle.versions.specs.Stores.{Store}
use Rattle.validation.specs.Stamps.{Stamps}
use Rattle.engine.specs.declared.engine.Engine.{Engine}
use Rattle.engine.specs.Steps.{LeadsTo}
use Rattle.club.specs.declared.said.TheConstants.{KEYS}
use Rattle.club.specs.declared.said.Said.{Said}
use Rattle.club.specs.declared.said.Said.TheVariants.{Values, Figures}
use Rattle.club.specs.Indexes.{played}

-- the club's values in a table, by rising key
abbrev pub club_in : Table → Said
club_in v = Values (map v (range_with_len 0 KEYS))

-- the figures of n rounds from k on in a table
abbrev pub figures_at : ℕ → ℕ → Table → Said
figures_at k n v =
    let rounds = map v (range_with_len k n) in
    Figures (record { sum = sum rounds % 2 ^ 64; smallest = least_of k rounds; played = played rounds })

-- s is what f shows of the club as the transactions so far left it, whatever history led to the engine
abbrev pub ShowsNow : {S V : Type 0} → (S → Store) → (V → Stamps) → Engine S V → (Table → Said) → Said → Type 0
ShowsNow m p e f s = (n : Limits) (ms : List Made) → LeadsTo m p n ms e → s ≡ f (table ms (after n ms).clock)

-- s is what f shows of the club as it was when the report h was opened; h is no updater's
abbrev pub ShowsOpening : {S V : Type 0} → (S → Store) → (V → Stamps) → Engine S V → ℕ → (Table → Said) → Said → Type 0
ShowsOpening m p e h f s = (n : Limits) (ms : List Made) → LeadsTo m p n ms e → updater_in h ms ≡ false
    → s ≡ f (table ms (start_of h - 1))
