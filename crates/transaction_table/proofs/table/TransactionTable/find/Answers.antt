use Rattle.std.proofs.Common.{◌≡◌, ◌<◌, length, IfSome, position, subst, rules}
use borrow.Author.Tests.{tests}
use Rattle.std.proofs.lemmas.Iterator.{YieldsList-from_slice}
use Rattle.std.proofs.lemmas.Iterator.Search.{position_from_yields_List}
use Rattle.ledger.specs.declared.TheConstants.{MAX_ACTIVE}
use Rattle.transaction_table.specs.Slots.{has_handle, free_record}
use Rattle.transaction_table.proofs.Searches.{position_within}
use Rattle.transaction_table.proofs.table.TransactionTable.find.Goals as goal

pub returns : goal.returns
returns c =
    let rs = c.args.self.now.records in
    let n : length rs ≡ MAX_ACTIVE = search rules in
    let e : c.position.result ≡ position (has_handle c.args.handle) rs = position_from_yields_List (has_handle c.args.handle) _ _ c.position.result c.position.ensures.ran (YieldsList-from_slice rs cc) (λ x b q k. search (rules, tests)) in
    record { place = e; within = subst (λ k. IfSome c.position.result (λ place. place < k)) n (position_within (has_handle c.args.handle) rs free_record c.position.result e) }
