use Rattle.std.specs.Io.Buffered.{writer_contents}
use Rattle.std.proofs.Common.{subst}
use Rattle.std.proofs.lemmas.Result.{MatchResult-from_err}
use Rattle.callfile.specs.Steps.{Advances}
use Rattle.callfile.proofs.Running.{no_progress, stops_at_once, handed_progress, more_progress, last_progress, worn_out, stops_handing, stops_behind, finished_written}
use Rattle.callfile.proofs.stream.answer_all.Goals as goal

pub loop-number-init : goal.loop-number-init
loop-number-init g c = no_progress _ _ _ _ _ _ _ _ c.in_ok-text.ensures.empty

pub returns-in_err-text : goal.returns-in_err-text
returns-in_err-text g c =
    MatchResult-from_err _ _ _ c.from_residual.ensures.0
    (λ _. stops_at_once g.F.Format.decoded g.S.VersionStore.meaning g.V.Validator.meaning _ _ _ _)

pub returns-in_err-hand_over : goal.returns-in_err-hand_over
returns-in_err-hand_over g c =
    MatchResult-from_err _ _ _ c.from_residual-in_err-hand_over.ensures.0
    (λ _. stops_handing g.F.Format.decoded g.S.VersionStore.meaning g.V.Validator.meaning c.loop-number.invariant c.in_err-hand_over.ensures.bytes)

pub returns-in_err-answer_next : goal.returns-in_err-answer_next
returns-in_err-answer_next g c =
    let d = g.F.Format.decoded in
    let m = g.S.VersionStore.meaning in
    let p = g.V.Validator.meaning in
    MatchResult-from_err _ _ _ c.from_residual-in_err-answer_next.ensures.0
    (λ _. stops_behind d m p (handed_progress d m p c.loop-number.invariant c.in_ok-hand_over.ensures.bytes) c.in_err-answer_next.ensures)

pub returns-then-not-branch : goal.returns-then-not-branch
returns-then-not-branch g c =
    let d = g.F.Format.decoded in
    let m = g.S.VersionStore.meaning in
    let p = g.V.Validator.meaning in
    finished_written d m p (writer_contents g.W.Write.contents c.write_lines.new.output) c.write_lines.result
    (last_progress d m p (handed_progress d m p c.loop-number.invariant c.in_ok-hand_over.ensures.bytes)
    (subst (Advances d m p _ _ _ _ _ _ _ _ _) c.if-not-branch.true c.in_ok-answer_next.ensures))
    c.write_lines.ensures.bytes

pub loop-number-preserved : goal.loop-number-preserved
loop-number-preserved g c =
    let d = g.F.Format.decoded in
    let m = g.S.VersionStore.meaning in
    let p = g.V.Validator.meaning in
    more_progress d m p (handed_progress d m p c.loop-number.invariant c.in_ok-hand_over.ensures.bytes)
    (subst (Advances d m p _ _ _ _ _ _ _ _ _) c.if-not-branch.false c.in_ok-answer_next.ensures)

pub returns : goal.returns
returns g c =
    let d = g.F.Format.decoded in
    let m = g.S.VersionStore.meaning in
    let p = g.V.Validator.meaning in
    finished_written d m p (writer_contents g.W.Write.contents c.write_lines-2.new.output) c.write_lines-2.result
    (worn_out d m p c.loop-number-test.false c.loop-number.invariant)
    c.write_lines-2.ensures.bytes
