use Rattle.callfile.proofs.Running.{line_held}
use Rattle.callfile.proofs.stream.answer_record.Goals as goal

pub returns-clause-line : goal.returns-clause-line
returns-clause-line g c =
    let done = c.answer-result.ensures in
    line_held g.F.Format.decoded g.S.VersionStore.meaning g.V.Validator.meaning _ _ _ _ _ _ _ _ _ done.result done.answers c.in_ok-writeln.ensures.bytes
