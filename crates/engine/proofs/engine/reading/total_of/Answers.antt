use Rattle.std.proofs.Common.{◌≡◌, sym, ap, ◌∙◌, arith}
use Rattle.transaction_table.specs.View.{view}
use Rattle.summaries.proofs.Joins.{summary_of-halves, summary_of_more}
use Rattle.summaries.specs.Summaries.{summary_of}
use Rattle.engine.specs.Reads.{read_value, values_read}
use Rattle.engine.proofs.engine.reading.total_of.Goals as goal

pub loop-i-preserved : goal.loop-i-preserved
loop-i-preserved g c =
    let m = g.M.Summary in
    rw (c.loop-i.invariant, c.one.ensures, c.value_at.ensures) at c.join-figure.ensures ∙ sym (summary_of_more m.laws m.one (read_value (g.S.VersionStore.meaning c.args.store.now) (view c.args.transaction.now)) c.args.range.first c.loop-i.i)

-- the range is gone through
all : (g : _) (c : goal.After-loop-i g) → let m = g.M.Summary in c.loop-i.figure ≡ summary_of m.one m.neutral m.join c.args.range.first (values_read (g.S.VersionStore.meaning c.args.store.now) (view c.args.transaction.now) c.args.range.first c.args.range.count)
all g c =
    let m = g.M.Summary in
    let end : c.loop-i.i ≡ c.args.range.count = omega (arith, c.loop-i-test.false, c.loop-i.auto.i-end) in
    c.loop-i.invariant ∙ ap (λ n. summary_of m.one m.neutral m.join c.args.range.first (values_read (g.S.VersionStore.meaning c.args.store.now) (view c.args.transaction.now) c.args.range.first n)) end

pub returns-clause-joined : goal.returns-clause-joined
returns-clause-joined g c = all g c

pub returns-clause-halves : goal.returns-clause-halves
returns-clause-halves g c i j e =
    let m = g.M.Summary in
    all g c ∙ summary_of-halves m.laws m.one (read_value (g.S.VersionStore.meaning c.args.store.now) (view c.args.transaction.now)) c.args.range.first i j c.args.range.count e
