-- An interrupted write keeps what was written.
use Rattle.std.specs.Io.KnownBytes.{Keeps}
use Rattle.callfile.proofs.stream.write_some.Given as goal

abbrev pub invariant-loop : goal.invariant-loop
invariant-loop g l = Keeps (g.W.Write.contents l.initial.output) (g.W.Write.contents l.output)
