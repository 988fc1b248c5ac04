use Rattle.std.proofs.Common.{refl, ap, ◌∙◌}
use Rattle.std.proofs.lemmas.Result.{err_from_is_err_and}
use Rattle.ledger.specs.declared.Call.TheVariants.{Commit}
use Rattle.ledger.specs.declared.Fault.TheVariants.{NoTransaction}
use Rattle.ledger.specs.declared.Done.TheVariants.{Ended}
use Rattle.ledger.specs.Ledger.{is_reader}
use Rattle.ledger.specs.Calls.{commit_effect}
use Rattle.transaction_table.proofs.Searches.{refused_search, found_search}
use Rattle.engine.proofs.CallSteps.{missing_steps, stayed, still_fits, still_here, still_kind}
use Rattle.engine.proofs.Commits.{reader_answered, updater_judged, closes, updates, commit_steps}
use Rattle.engine.proofs.engine.Engine.commit.Goals as goal
use Rattle.engine.proofs.engine.Engine.commit.Goals.{in-Judge, in-Answer}

pub returns-in_err-slot-clause-refines : goal.returns-in_err-slot-clause-refines
returns-in_err-slot-clause-refines g c b l f = missing_steps f Ended _ b c.args.handle (commit_effect l b c.args.handle) _ refl (refused_search c.from_residual.result _ (NoTransaction c.args.handle) c.in_err-slot.field-0.0 c.from_residual.ensures.1 c.in_err-slot.ensures.place)

pub returns-in_err-next-clause-refines : goal.returns-in_err-next-clause-refines
returns-in_err-next-clause-refines g c b l f =
    let there = found_search _ (NoTransaction c.args.handle) c.in_ok-slot.slot c.in_ok-slot.ensures.place in
    let p = err_from_is_err_and c.from_residual-in_err-next.result c.from_residual-in_err-next.ensures.1 in
    let e = c.in_err-next.ensures in
    rw (p.1, p.2) (stayed f c.args.handle c.in_ok-slot.slot c.index-self-slot.result c.take.new.self there e.state _ c.keys-keys.ensures (Commit c.args.handle) b (commit_effect l b c.args.handle) _ refl e.answer e.refusal)

pub returns-clause-refines : goal.returns-clause-refines
returns-clause-refines g c b l f =
    let h = c.args.handle in
    let i = c.in_ok-slot.slot in
    let there = found_search _ (NoTransaction h) i c.in_ok-slot.ensures.place in
    let e = c.in_ok-next.ensures in
    let still = still_fits f h i c.index-self-slot.result c.take.new.self there e.state _ c.keys-keys.ensures (Commit h) b (λ x. refl) e.after in
    let here = still_here f h i c.index-self-slot.result c.take.new.self there e.state _ c.keys-keys.ensures (Commit h) b (λ x. refl) e.after c.index-self-slot-2.result in
    let kind = still_kind f h i c.index-self-slot.result c.take.new.self there e.state _ c.keys-keys.ensures (Commit h) b (λ x. refl) e.after c.index-self-slot-2.result in
    commit_steps still h i here b c.match-next.verdict c.match-next.self.table _ _ _ refl
    (elim c.match-next.branch [
      | in-Judge w ↦ rw (w.self-is, w.verdict-is) (updates still h i here b w.judge-verdict.result _ _ _ (λ held. w.judge-verdict.ensures.judges l b still held (ap is_reader kind ∙ updater_judged _ h c.in_ok-next.next w.in-Judge.is e.answer)))
      | in-Answer w ↦ rw (w.self-is, w.verdict-is) (closes still h i here b (ap is_reader kind ∙ reader_answered _ h c.in_ok-next.next w.in-Answer.is e.answer))
    ])
