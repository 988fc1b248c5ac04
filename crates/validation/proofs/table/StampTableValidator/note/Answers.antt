use Rattle.std.proofs.Common.{Ok, ap, ◌∙◌}
use Rattle.validation.proofs.Tables.{placed, set_noted}
use Rattle.validation.proofs.table.StampTableValidator.note.Goals as goal

pub bounds-self-granule : goal.bounds-self-granule
bounds-self-granule c =
    let t = c.args.self.now in
    (placed t.keys t.grain t.some t.stamps.now t.places c.args.key c.from-granule.result (ap (λ n. Ok n) c.from-granule.ensures ∙ c.in_ok-granule.ensures)).2

pub bounds-self-granule-2 : goal.bounds-self-granule-2
bounds-self-granule-2 c =
    let t = c.args.self.now in
    (placed t.keys t.grain t.some t.stamps.now t.places c.args.key c.from-granule.result (ap (λ n. Ok n) c.from-granule.ensures ∙ c.in_ok-granule.ensures)).2

pub returns-clause-after : goal.returns-clause-after
returns-clause-after c =
    let t = c.args.self.now in
    let g = c.from-granule.result in
    let at = placed t.keys t.grain t.some t.stamps.now t.places c.args.key g (ap (λ n. Ok n) c.from-granule.ensures ∙ c.in_ok-granule.ensures) in
    set_noted t.keys t.grain t.stamps.now c.args.key g c.args.stamp at.0 at.1 at.2 c.if-stamp-self.false
