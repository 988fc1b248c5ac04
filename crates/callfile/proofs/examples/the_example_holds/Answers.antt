use Rattle.std.proofs.Common.{refl}
use Rattle.std.specs.Fmt.{digits}
use Rattle.callfile.proofs.examples.the_example_holds.Goals as goal

pub returns : goal.returns
unfolding digits
returns c = record { bytes = refl; lines = refl }
