use Rattle.std.proofs.Common.{◌≡◌, length, take, subst, rules, arith}
use Rattle.std.specs.Io.KnownBytes.{Consumes}
use Rattle.std.proofs.lemmas.Result.{MatchResult-from_err}
use Rattle.callfile.proofs.Running.{advances_none, advances, breaks_in_line, breaks_at_once}
use Rattle.callfile.proofs.stream.answer_next.Goals as goal

pub returns-in_err-count : goal.returns-in_err-count
returns-in_err-count g c =
    MatchResult-from_err _ _ _ c.from_residual.ensures.0
    (λ _. breaks_at_once g.F.Format.decoded g.S.VersionStore.meaning g.V.Validator.meaning c.args.engine.now c.args.number c.args.buffer.now (g.R.Read.remaining c.args.input.now) _ c.in_err-count.ensures.err)

pub returns-then-count-eq0 : goal.returns-then-count-eq0
returns-then-count-eq0 g c =
    let came = c.in_ok-count.ensures in
    advances_none _ _ _ _ _ _ _ _ _
    (subst (λ n. Consumes (g.R.Read.remaining c.args.input.now) (g.R.Read.remaining c.read_record.new.input) (take n c.read_record.new.bytes)) c.if-count-eq0.true came.taken)
    (came.short (let room : length c.read_record.new.bytes ≡ 20 = search rules in omega (arith, room, c.if-count-eq0.true)))

pub returns-in_err-answer_record : goal.returns-in_err-answer_record
returns-in_err-answer_record g c =
    let came = c.in_ok-count.ensures in
    MatchResult-from_err _ _ _ c.from_residual-in_err-answer_record.ensures.0
    (λ _. breaks_in_line g.F.Format.decoded g.S.VersionStore.meaning g.V.Validator.meaning c.args.engine.now c.answer_record.new.engine c.args.number c.args.buffer.now c.answer_record.new.buffer
    (g.R.Read.remaining c.args.input.now) (g.R.Read.remaining c.read_record.new.input)
    c.in_ok-count.count c.read_record.new.bytes (search rules) came.within c.if-count-eq0.false came.taken came.short c.in_err-answer_record.ensures.answers)

pub returns : goal.returns
returns g c =
    let came = c.in_ok-count.ensures in
    let told = c.in_ok-answer_record.ensures in
    advances _ _ _ _ _ _ _ _ _ _ _ _ _ c.read_record.new.bytes (search rules) came.within c.if-count-eq0.false came.taken came.short told.answers told.line
