use Rattle.std.proofs.Common.{refl}
use Rattle.std.proofs.lemmas.Result.{err_from_is_err_and}
use Rattle.ledger.specs.declared.Call.TheVariants.{Read}
use Rattle.ledger.specs.declared.Fault.TheVariants.{NoTransaction}
use Rattle.ledger.specs.declared.Done.TheVariants.{Read as ReadDone}
use Rattle.ledger.specs.Calls.{read_effect}
use Rattle.transaction_table.proofs.Searches.{refused_search, found_search}
use Rattle.engine.proofs.CallSteps.{missing_steps, stayed, read_steps}
use Rattle.engine.proofs.engine.Engine.read.Goals as goal

pub returns-in_err-slot-clause-refines : goal.returns-in_err-slot-clause-refines
returns-in_err-slot-clause-refines g c l f =
    let b = c.args.buffer.now in
    missing_steps f (λ _. ReadDone c.args.count) _ b c.args.handle (read_effect l b c.args.handle c.args.first c.args.count) _ refl (refused_search c.from_residual.result _ (NoTransaction c.args.handle) c.in_err-slot.field-0.0 c.from_residual.ensures.1 c.in_err-slot.ensures.place)

pub returns-in_err-take-clause-refines : goal.returns-in_err-take-clause-refines
returns-in_err-take-clause-refines g c l f =
    let b = c.args.buffer.now in
    let there = found_search _ (NoTransaction c.args.handle) c.in_ok-slot.slot c.in_ok-slot.ensures.place in
    let p = err_from_is_err_and c.from_residual-in_err-take.result c.from_residual-in_err-take.ensures.1 in
    let e = rw c.read_by.ensures at c.in_err-take.ensures in
    rw (p.1, p.2) (stayed f c.args.handle c.in_ok-slot.slot c.index-self-slot.result c.take.new.self there e.state _ c.keys-keys.ensures (Read c.args.handle c.args.first c.args.count) b (read_effect l b c.args.handle c.args.first c.args.count) _ refl e.answer e.refusal)

pub returns-clause-refines : goal.returns-clause-refines
returns-clause-refines g c l f =
    let there = found_search _ (NoTransaction c.args.handle) c.in_ok-slot.slot c.in_ok-slot.ensures.place in
    let e = rw c.read_by.ensures at c.in_ok-take.ensures in
    read_steps f c.args.handle c.in_ok-slot.slot c.index-self-slot.result c.take.new.self there e.state _ c.keys-keys.ensures c.args.first c.args.count c.args.buffer.now c.fill.new.buffer c.in_ok-take.field-0 e.answer e.after c.fill.ensures
