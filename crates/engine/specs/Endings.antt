-- What the parts of a commit make of store and validator, whatever these answer.
use Rattle.std.specs.Prelude.{ℕ, List, [], ◌∷◌, None, Ok, Err, Option, Result}
use Rattle.std.specs.Option.{option_or}
use Rattle.ledger.specs.declared.Range.{Range}
use Rattle.ledger.specs.declared.Write.{Write}
use Rattle.versions.specs.Stores.{Store, added}
use Rattle.validation.specs.Stamps.{Stamps, clash_answer, noted}
use Rattle.validation.specs.declared.fault.ValidatorFault.{ValidatorFault}
use Rattle.validation.specs.declared.validator.Clash.{Clash}

-- the clash that a validator names; it may refuse a range
abbrev pub named : Result (Option Clash) ValidatorFault → Option Clash
named (Ok o) = o
named (Err f) = None

-- the first clash with the start tick that the validator names, over the ranges in their order
abbrev pub first_named : Stamps → ℕ → List Range → Option Clash
first_named v start [] = None
first_named v start (r ∷ rs) = option_or (named (clash_answer v r.first r.count start)) (first_named v start rs)

-- each write added in turn, with one stamp
abbrev pub all_added : ℕ → Store → List Write → Store
all_added stamp s [] = s
all_added stamp s (w ∷ ws) = all_added stamp (added s w.key stamp w.value) ws

-- the key of each write noted in turn, with one stamp
abbrev pub all_noted : ℕ → Stamps → List Write → Stamps
all_noted stamp v [] = v
all_noted stamp v (w ∷ ws) = all_noted stamp (noted v w.key stamp) ws
