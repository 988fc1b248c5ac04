use Rattle.std.proofs.Common.{◌≡◌, drop}
use Rattle.club.specs.Lines.{number, digits_on}
use Rattle.club.proofs.line.parse_long.Given as goal

abbrev pub invariant-loop-digit : goal.invariant-loop-digit
invariant-loop-digit l = digits_on l.value (drop l.digit-index l.digits) 18446744073709551615 ≡ number l.digits 18446744073709551615
