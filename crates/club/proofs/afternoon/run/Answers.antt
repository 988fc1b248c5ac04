use Rattle.std.specs.Io.Buffered.{reader_remaining, writer_contents}
use Rattle.std.proofs.lemmas.Option.{IfSome_then}
use Rattle.std.proofs.lemmas.Result.{on_ok_weaker}
use Rattle.club.proofs.Afternoons.{tells, tells_same}
use Rattle.club.proofs.afternoon.run.Goals as goal

pub returns-clause-known : goal.returns-clause-known
returns-clause-known g c =
    let done = c.in_ok-lines.ensures in
    on_ok_weaker c.flush.result
    (λ _. IfSome_then (reader_remaining g.R.Read.remaining c.args.input.now) done.3
    (λ text same few.
    tells_same _ _ _ _ (same few)
    (tells _ _ _ _ (writer_contents g.W.Write.contents c.writeln.new.self) done.1 done.2 c.in_ok-writeln.ensures.bytes c.flush.ensures.bytes)))
    c.flush.ensures.ok

pub returns-clause-taken : goal.returns-clause-taken
returns-clause-taken g c =
    let done = c.in_ok-lines.ensures in
    on_ok_weaker c.flush.result
    (λ _. (done.0, tells _ _ _ _ (writer_contents g.W.Write.contents c.writeln.new.self) done.1 done.2 c.in_ok-writeln.ensures.bytes c.flush.ensures.bytes))
    c.flush.ensures.ok
