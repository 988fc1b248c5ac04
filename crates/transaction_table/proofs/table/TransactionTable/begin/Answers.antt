use Rattle.std.proofs.Common.{◌≡◌, ℕ, ◌+◌, ◌∷◌, List, length, Result, Ok, Err, IsErr, set, sym, ap, ◌∙◌, subst, rules}
use Rattle.std.proofs.lemmas.Bool.{le-leb, lt-leb}
use Rattle.ledger.specs.declared.TheConstants.{MAX_ACTIVE}
use Rattle.ledger.specs.declared.Fault.{Fault}
use Rattle.ledger.specs.declared.Fault.TheVariants.{TooManyActive}
use Rattle.ledger.specs.declared.Kind.{Kind}
use Rattle.ledger.specs.Calls.{fresh}
use Rattle.transaction_table.specs.declared.record.Record.{Record}
use Rattle.transaction_table.specs.View.{active_of}
use Rattle.transaction_table.specs.Slots.{is_free, new_record, begun_active}
use Rattle.transaction_table.specs.Shuffle.{IsShuffle}
use Rattle.transaction_table.proofs.Searches.{refused_search, found_search, first_changed-set}
use Rattle.transaction_table.proofs.Slots.{none_vacant, roomy, vacant_at, slots_open, new_view, new_taken}
use Rattle.transaction_table.proofs.Shuffles.{shuffle_refl}
use Rattle.transaction_table.proofs.table.TransactionTable.begin.Goals as goal

pub returns-in_err-slot-clause-answer : goal.returns-in_err-slot-clause-answer
returns-in_err-slot-clause-answer c =
    let rs = c.args.self.now.records in
    let n : length rs ≡ MAX_ACTIVE = search rules in
    let p = refused_search c.from_residual.result c.vacant.result TooManyActive c.in_err-slot.field-0.0 c.from_residual.ensures.1 c.in_err-slot.ensures.value in
    rw (p.0, none_vacant rs n (p.1 ∙ c.vacant.ensures))

refused_none : (r : Result ℕ Fault) (kind : Kind) (rs : List Record) → IsErr r → IsShuffle (begun_active r kind rs) (active_of rs)
refused_none (Ok x) kind rs e = cc
refused_none (Err f) kind rs e = shuffle_refl _

pub returns-in_err-slot-clause-active : goal.returns-in_err-slot-clause-active
returns-in_err-slot-clause-active c = refused_none c.from_residual.result c.args.kind c.args.self.now.records c.from_residual.ensures.0

pub returns-then-self-clause-answer : goal.returns-then-self-clause-answer
returns-then-self-clause-answer c =
    let rs = c.args.self.now.records in
    let n : length rs ≡ MAX_ACTIVE = search rules in
    let e = found_search c.vacant.result TooManyActive c.in_ok-slot.slot c.in_ok-slot.ensures.value ∙ c.vacant.ensures in
    rw (roomy rs c.in_ok-slot.slot n e, le-leb _ _ c.if-self.true)

pub returns-then-self-clause-active : goal.returns-then-self-clause-active
returns-then-self-clause-active c = shuffle_refl _

pub returns-clause-answer : goal.returns-clause-answer
returns-clause-answer c =
    let rs = c.args.self.now.records in
    let n : length rs ≡ MAX_ACTIVE = search rules in
    let e = found_search c.vacant.result TooManyActive c.in_ok-slot.slot c.in_ok-slot.ensures.value ∙ c.vacant.ensures in
    rw (roomy rs c.in_ok-slot.slot n e, lt-leb _ _ c.if-self.false)

pub returns-clause-after : goal.returns-clause-after
returns-clause-after c =
    let t = c.args.self.now in
    let e = found_search c.vacant.result TooManyActive c.in_ok-slot.slot c.in_ok-slot.ensures.value ∙ c.vacant.ensures in
    ap (λ (rs : List Record). record { clock = t.clock + 1; last = t.last; records = rs })
    (ap (set t.records c.in_ok-slot.slot) c.new.ensures ∙ sym (first_changed-set is_free (λ _. new_record (t.clock + 1) c.args.kind) t.records c.in_ok-slot.slot c.index-self-slot.result e))

pub returns-clause-active : goal.returns-clause-active
returns-clause-active c =
    let t = c.args.self.now in
    let kind = c.args.kind in
    let e = found_search c.vacant.result TooManyActive c.in_ok-slot.slot c.in_ok-slot.ensures.value ∙ c.vacant.ensures in
    let v = vacant_at t.records c.in_ok-slot.slot e in
    subst (λ r. IsShuffle (fresh (t.clock + 1) kind ∷ active_of t.records) (active_of (set t.records c.in_ok-slot.slot r))) (sym c.new.ensures)
    (subst (λ u. IsShuffle (u ∷ active_of t.records) (active_of (set t.records c.in_ok-slot.slot (new_record (t.clock + 1) kind)))) (new_view (t.clock + 1) kind)
    (slots_open t.records c.in_ok-slot.slot v.0 (new_record (t.clock + 1) kind) v.1 v.2 (new_taken (t.clock + 1) kind)))
