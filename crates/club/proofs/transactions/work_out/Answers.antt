use Rattle.std.proofs.Common.{rules, ◌≡◌, length, min, take, refl}
use Rattle.std.proofs.lemmas.Result.{err_from_is_err_and}
use Rattle.std.proofs.lemmas.List.{take_min}
use Rattle.club.specs.Indexes.{index}
use Rattle.procedures.proofs.Performances.{performs_on, performs_pure}
use Rattle.club.proofs.transactions.work_out.Goals as goal

pub returns-in_err-handle : goal.returns-in_err-handle
returns-in_err-handle g c =
    let q = err_from_is_err_and c.from_residual.result c.from_residual.ensures.1 in
    rw (q.1, q.2) (performs_on _ c.in_err-handle.ensures (performs_pure _))

pub returns : goal.returns
returns g c =
    let len : length c.begin_with_read.new.buffer ≡ 8 = search rules in
    let used : c.min-used.result ≡ min c.args.count (length c.begin_with_read.new.buffer) = rw (len, c.min-used.ensures, c.from.ensures) refl in
    let value : c.index_of-value.result ≡ index (take c.args.count c.begin_with_read.new.buffer) = rw (c.index_of-value.ensures, used, take_min) refl in
    rw value (performs_on _ c.in_ok-handle.ensures (performs_pure _))
