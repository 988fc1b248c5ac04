use Rattle.std.proofs.Common.{◌-◌, ◌++◌, length, take, drop, sym, ap, subst, ◌∙◌, arith}
use lib.Seq.{take-add, take-take}
use Rattle.std.specs.Io.KnownBytes.{Appends}
use Rattle.std.proofs.KnownBytes.{Appends-trans}
use Rattle.callfile.proofs.stream.write_text.Goals as goal

pub loop-written-preserved : goal.loop-written-preserved
loop-written-preserved g c =
    let done = c.loop-written.written in
    let n = c.in_ok-count.count in
    let xs = c.args.text.now in
    let before = c.loop-written.invariant in
    let fits = c.in_ok-count.ensures.bound in
    let joined = ap (λ l. take done xs ++ l) (take-take n (length xs - done) (drop done xs) (omega arith)) ∙ sym (take-add done n xs) in
    record { within = omega arith; front = subst (Appends _ _) joined (Appends-trans _ _ _ _ _ before.front c.in_ok-count.ensures.bytes) }
