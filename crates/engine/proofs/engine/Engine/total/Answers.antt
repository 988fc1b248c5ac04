use Rattle.std.proofs.Common.{Err, ap, ◌∙◌}
use Rattle.std.proofs.lemmas.Result.{err_from_is_err_and}
use Rattle.ledger.specs.declared.Fault.TheVariants.{NoTransaction}
use Rattle.summaries.specs.Summaries.{summary_of}
use Rattle.transaction_table.proofs.Searches.{refused_search, found_search}
use Rattle.engine.proofs.Totals.{missing_total, refused_read, taken_read, halves_join}
use Rattle.engine.proofs.engine.Engine.total.Goals as goal

pub returns-in_err-slot-clause-refines : goal.returns-in_err-slot-clause-refines
returns-in_err-slot-clause-refines g c l f =
    let m = g.M.Summary in
    missing_total (summary_of m.one m.neutral m.join c.args.first) f c.args.handle c.args.first c.args.count _ (refused_search c.from_residual.result _ (NoTransaction c.args.handle) c.in_err-slot.field-0.0 c.from_residual.ensures.1 c.in_err-slot.ensures.place)

pub returns-in_err-take-clause-refines : goal.returns-in_err-take-clause-refines
returns-in_err-take-clause-refines g c l f =
    let m = g.M.Summary in
    let there = found_search _ (NoTransaction c.args.handle) c.in_ok-slot.slot c.in_ok-slot.ensures.place in
    let p = err_from_is_err_and c.from_residual-in_err-take.result c.from_residual-in_err-take.ensures.1 in
    let e = rw (c.read_by.ensures, c.from.ensures) at c.in_err-take.ensures in
    refused_read (summary_of m.one m.neutral m.join c.args.first) f c.args.handle c.args.first c.args.count c.in_ok-slot.slot c.index-self-slot.result c.take.new.self there e.state _ c.keys-keys.ensures _ _ (p.1 ∙ ap Err p.2) e.answer e.refusal

pub returns-clause-refines : goal.returns-clause-refines
returns-clause-refines g c l f =
    let m = g.M.Summary in
    let there = found_search _ (NoTransaction c.args.handle) c.in_ok-slot.slot c.in_ok-slot.ensures.place in
    let e = rw (c.read_by.ensures, c.from.ensures) at c.in_ok-take.ensures in
    taken_read (summary_of m.one m.neutral m.join c.args.first) f c.args.handle c.args.first c.args.count c.in_ok-slot.slot c.index-self-slot.result c.take.new.self there e.state _ c.keys-keys.ensures c.in_ok-take.field-0 _ e.answer e.after c.total_of.ensures.joined

pub returns-clause-halves : goal.returns-clause-halves
returns-clause-halves g c l t f here =
    let m = g.M.Summary in
    halves_join m.laws m.one l c.args.handle c.args.first c.args.count t c.total_of.result (returns-clause-refines g c l f).answer here
