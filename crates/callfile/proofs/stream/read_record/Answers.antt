use Rattle.std.proofs.Common.{◌-◌, length, rules, subst, sym}
use Rattle.std.specs.Io.KnownBytes.{Consumes}
use Rattle.std.proofs.KnownBytes.{Consumes-trans}
use Rattle.callfile.proofs.Reading.{take-put_mid}
use Rattle.callfile.proofs.stream.read_record.Goals as goal

pub loop-count-preserved : goal.loop-count-preserved
loop-count-preserved g c =
    let from = c.loop-count.count in
    let more = c.in_ok-more.more in
    let before = c.loop-count.invariant in
    let bound = c.in_ok-more.ensures.bound in
    let joined = take-put_mid from (length c.loop-count.bytes - from) more c.loop-count.bytes c.read.new.buf before.within bound.0 in
    record { within = search rules; taken = subst (Consumes _ _) (sym joined) (Consumes-trans _ _ _ _ _ before.taken c.in_ok-more.ensures.bytes.0) }
