use Rattle.std.proofs.Common.{◌≡◌, rules, arith, codes, refl}
use Rattle.std.proofs.lemmas.Slice.Eq.{text_from_reads}
use Rattle.club.proofs.line.parse_verb.Goals as goal

pub returns-in-finish : goal.returns-in-finish
returns-in-finish c =
    let w : c.args.word.now ≡ codes "finish" = text_from_reads c.args.word.now (codes "finish") (omega arith) (search rules) in
    rw w refl

pub returns-in-report : goal.returns-in-report
returns-in-report c =
    let w : c.args.word.now ≡ codes "report" = text_from_reads c.args.word.now (codes "report") (omega arith) (search rules) in
    rw w refl

pub returns-in-correct : goal.returns-in-correct
returns-in-correct c =
    let w : c.args.word.now ≡ codes "correct" = text_from_reads c.args.word.now (codes "correct") (omega arith) (search rules) in
    rw w refl

pub returns-in-recalculate : goal.returns-in-recalculate
returns-in-recalculate c =
    let w : c.args.word.now ≡ codes "recalculate" = text_from_reads c.args.word.now (codes "recalculate") (omega arith) (search rules) in
    rw w refl

pub returns-in-figures : goal.returns-in-figures
returns-in-figures c =
    let w : c.args.word.now ≡ codes "figures" = text_from_reads c.args.word.now (codes "figures") (omega arith) (search rules) in
    rw w refl

pub returns-in-115 : goal.returns-in-115
returns-in-115 c =
    let w : c.args.word.now ≡ codes "show-figures" = text_from_reads c.args.word.now (codes "show-figures") (omega arith) (search rules) in
    rw w refl
