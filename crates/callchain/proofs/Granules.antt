-- Granules of one key are the keys.
use Rattle.std.proofs.Common.{◌≡◌, ℕ, ◌/◌, ap}
use Rattle.validation.proofs.Tables.{granule_of_one}
use Rattle.callfile.specs.Programs.{program_limits}

pub own_granules : record program_limits { granule = λ k. k / 1 } ≡ program_limits
own_granules = ap (λ (g : ℕ → ℕ). record program_limits { granule = g }) granule_of_one
