use Rattle.std.proofs.Common.{◌≡◌, ◌+◌, ◌-◌, ◌≤◌, ◌++◌, length, take, drop, Ok, sym, refl, ap, ◌∙◌, subst, arith}
use Rattle.ledger.specs.declared.Kind.TheVariants.{Reader}
use Rattle.ledger.specs.declared.Call.TheVariants.{Begin}
use Rattle.ledger.specs.declared.Done.TheVariants.{Began}
use Rattle.engine.specs.Fits.{limits_of}
use Rattle.engine.specs.SetUp.{last_of}
use Rattle.engine.specs.Replays.{IsReplayed}
use Rattle.engine.proofs.Replays.{stays_within, replayed_none, replayed_more, replayed_all}
use Rattle.engine.proofs.replay.replay.Goals as goal

pub loop-request-init : goal.loop-request-init
loop-request-init g c = (omega arith, replayed_none g.S.VersionStore.meaning g.V.Validator.meaning _ c.args.requests.now c.args.buffers.now c.make-engine.result c.make-engine.ensures.fits)

pub loop-request-preserved : goal.loop-request-preserved
loop-request-preserved g c =
    let m = g.S.VersionStore.meaning in
    let p = g.V.Validator.meaning in
    let cs = c.loop-request.buffers in
    let start = c.loop-request.start in
    let end = start + c.min.result in
    let new = c.call-request.new.buffer in
    let k : end - start ≡ c.min.result = omega arith in (
      subst (λ z. end ≤ length (take start cs ++ (new ++ drop z (drop start cs)))) (sym k) (stays_within start c.min.result cs new (omega (arith, c.min.ensures, c.loop-request.invariant.0)) (subst (λ z. length new ≡ length (take z (drop start cs))) k c.call-request.auto.buffer)),
      replayed_more m p _ c.loop-request.request-index start end c.args.requests.now c.loop-request.requests c.args.buffers.now cs new _ c.loop-request.engine c.call-request.new.self (record { call = Begin Reader; room = 0; answer = Ok (Began 0) }) _ c.loop-request.invariant.1 c.loop-request-test.true c.loop-request.auto.requests refl (ap (λ z. start + z) c.min.ensures) c.call-request.auto.buffer refl c.call-request.ensures.history,
    )

pub returns : goal.returns
returns g c =
    let m = g.S.VersionStore.meaning in
    let p = g.V.Validator.meaning in
    let made = c.make-engine.ensures in
    subst (λ n. IsReplayed m p n c.args.requests.now c.loop-request.requests c.args.buffers.now c.loop-request.buffers c.loop-request.engine)
    (ap (λ z. limits_of z (m c.make-engine.result.store) (p c.make-engine.result.validator)) made.last
    ∙ ap (λ s. limits_of (last_of c.args.last (m c.args.store) (p c.args.validator)) (m s) (p c.make-engine.result.validator)) made.store
    ∙ ap (λ v. limits_of (last_of c.args.last (m c.args.store) (p c.args.validator)) (m c.args.store) (p v)) made.validator)
    (replayed_all m p _ c.loop-request.request-index c.loop-request.start c.args.requests.now c.loop-request.requests c.args.buffers.now c.loop-request.buffers c.loop-request.engine c.loop-request.invariant.1 c.loop-request-test.false c.loop-request.auto.requests)
