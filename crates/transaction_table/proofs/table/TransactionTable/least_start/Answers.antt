use Rattle.std.proofs.Common.{min, ap, ◌∙◌, rules}
use borrow.Author.Tests.{tests}
use Rattle.std.proofs.lemmas.Iterator.{YieldsList-from_slice, YieldsList-from_map}
use Rattle.std.proofs.lemmas.Iterator.Consumers.{YieldsList-at, YieldsList-from_filter, fold_from_yields_List}
use Rattle.ledger.specs.Ledger.{least_start}
use Rattle.transaction_table.specs.View.{active_of}
use Rattle.transaction_table.specs.Slots.{is_of_kind, holds_kind}
use Rattle.transaction_table.proofs.Slots.{least_fold}
use Rattle.transaction_table.proofs.table.TransactionTable.least_start.Goals as goal

pub returns : goal.returns
returns c =
    let rs = c.args.self.now.records in
    let kind = c.args.kind in
    fold_from_yields_List _ min c.saturating_add-next.result c.fold.result c.fold.ensures.ran
    (YieldsList-from_map _ (λ r. r.start) (YieldsList-at c.map.ensures.source (YieldsList-from_filter _ (λ r. holds_kind kind r.state) (YieldsList-from_slice rs cc) c.filter.ensures.closure (λ x r q k. search (rules, tests)))) c.map.ensures.closure (λ x r q k. search (rules, tests)))
    (λ a x b q k. search (rules, tests))
    ∙ least_fold kind rs c.saturating_add-next.result
    ∙ ap (λ n. least_start (is_of_kind kind) n (active_of rs)) c.saturating_add-next.ensures
