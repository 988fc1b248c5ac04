-- A total is the ledger's read of its range, told in one figure; of a kind that calls name, it is the ledger's total.
use Rattle.std.specs.List.{range_with_len}
use Rattle.std.proofs.Common.{◌≡◌, ℕ, Bool, true, false, cond, not, ◌&&◌, map, ◌<◌, ◌^◌, List, ◌++◌, length, get_or, drop, position, Some, None, Ok, Err, Result, sym, refl, ap, ◌∙◌, subst}
use Rattle.std.proofs.lemmas.List.{length-replicate}
use Rattle.refusals.specs.Results.{result_map}
use Rattle.ledger.specs.declared.SummaryKind.{SummaryKind}
use Rattle.ledger.specs.declared.SummaryKind.TheVariants.{Sum as ToSum, Smallest as ToSmallest, NonZero as ToNonZero}
use Rattle.ledger.specs.declared.Figure.{Figure}
use Rattle.ledger.specs.declared.Call.TheVariants.{Read, Total}
use Rattle.ledger.specs.declared.Fault.{Fault}
use Rattle.ledger.specs.declared.Fault.TheVariants.{KeyOutside, NoTransaction, ReadListFull}
use Rattle.ledger.specs.declared.Done.{Done}
use Rattle.ledger.specs.declared.Done.TheVariants.{Read as ReadDone, Total as TotalDone}
use Rattle.ledger.specs.Ledger.{Transaction, Ledger, found}
use Rattle.ledger.specs.Laws.{total_answer}
use Rattle.ledger.specs.Figures.{figure_of}
use Rattle.ledger.specs.Calls.{read_effect, new_buffer, joined, joins, in_table, read_list_full, seen, step}
use Rattle.ledger.proofs.Steps.{filled}
use Rattle.ledger.proofs.Totals.{tells_figure, read_fills, told_of}
use Rattle.summaries.specs.declared.kinds.Sum.{Sum}
use Rattle.summaries.specs.declared.kinds.Smallest.{Smallest}
use Rattle.summaries.specs.declared.kinds.NonZero.{NonZero}
use Rattle.summaries.specs.Summaries.{SummaryLaws, summary_of}
use Rattle.summaries.proofs.Joins.{summary_of-halves}
use Rattle.summaries.specs.Kinds.{sum_of, sum_one, sum_join, smallest_one, smallest_none, smallest_join, non_zero_of, non_zero_one, non_zero_join}
use Rattle.summaries.proofs.Totals.{sum_figure, smallest_figure, non_zero_figure}
use Rattle.versions.specs.Stores.{Store}
use Rattle.validation.specs.Stamps.{Stamps}
use Rattle.transaction_table.specs.declared.record.Next.{Next}
use Rattle.transaction_table.specs.declared.record.Record.{Record}
use Rattle.transaction_table.specs.declared.table.TransactionTable.{TransactionTable}
use Rattle.transaction_table.specs.View.{view}
use Rattle.transaction_table.specs.Next.{take_answer}
use Rattle.transaction_table.specs.Slots.{has_handle}
use Rattle.engine.specs.Reads.{read_value, values_read}
use Rattle.engine.specs.Fits.{Fits}
use Rattle.engine.specs.Steps.{FollowsStep}
use Rattle.engine.specs.Totals.{FollowsRead, CutsAnywhere}
use Rattle.engine.proofs.CallSteps.{missing_steps, stayed, read_steps, with_record}

-- a total is put to its transaction as a read with room for so many values
in_room : {X : Type 0} (r : Result X Fault) (answer : ℕ → Result X Fault) (n : ℕ) → r ≡ answer n → r ≡ answer (length (new_buffer n))
in_room r answer n e = e ∙ ap answer (sym (length-replicate n 0))

module _ {M : Type 0} (figure : List ℕ → M) {l : Ledger} {t : TransactionTable} {s : Store} {v : Stamps} where
  refused_total : (h k n : ℕ) (x : Fault) (a : Result M Fault) → a ≡ Err x → FollowsStep l (Read h k n) (new_buffer n) (Err x) (new_buffer n) t s v → FollowsRead l h k n figure a t s v
  refused_total h k n x a is f = record { answer = is ∙ ap (result_map (λ _. figure (step l (Read h k n) (new_buffer n)).buffer)) f.answer ∙ told_of figure l h k n; after = f.after }

  told_total : (h k n : ℕ) (xs : List ℕ) (x : M) → x ≡ figure xs → FollowsStep l (Read h k n) (new_buffer n) (Ok (ReadDone n)) xs t s v → FollowsRead l h k n figure (Ok x) t s v
  told_total h k n xs x is f = record { answer = ap Ok (is ∙ ap figure f.buffer) ∙ ap (result_map (λ _. figure (step l (Read h k n) (new_buffer n)).buffer)) f.answer ∙ told_of figure l h k n; after = f.after }

module _ {M : Type 0} (figure : List ℕ → M) {l : Ledger} {t : TransactionTable} {s : Store} {v : Stamps} (f : Fits l t s v) (h k n : ℕ) where
  -- no record is taken with the handle
  pub missing_total : (a : Result M Fault) → (a ≡ Err (NoTransaction h)) × (None ≡ position (has_handle h) t.records) → FollowsRead l h k n figure a t s v
  missing_total a (is, none) = refused_total figure h k n (NoTransaction h) a is (missing_steps f (λ (x : M). ReadDone n) (Read h k n) (new_buffer n) h (read_effect l (new_buffer n) h k n) (Err (NoTransaction h)) refl (refl, none))

  -- the record at i, of the transaction with the handle, became new by the read
  module _ (i : ℕ) (d new : Record) (there : Some i ≡ position (has_handle h) t.records) (kept : new.state ≡ (get_or t.records i d).state) (keys : ℕ) (of-store : keys ≡ s.keys) where
    pub refused_read : (x : Fault) (a : Result M Fault) → a ≡ Err x → Err x ≡ take_answer keys n (view (get_or t.records i d)) (Read h k n) → new ≡ get_or t.records i d → FollowsRead l h k n figure a (with_record t i new) s v
    refused_read x a is e same = refused_total figure h k n x a is (stayed f h i d new there kept keys of-store (Read h k n) (new_buffer n) (read_effect l (new_buffer n) h k n) x refl (in_room (Err x) (λ room. take_answer keys room (view (get_or t.records i d)) (Read h k n)) n e) same)

    pub taken_read : (m : Next) (x : M) → Ok m ≡ take_answer keys n (view (get_or t.records i d)) (Read h k n) → view new ≡ joined (view (get_or t.records i d)) k n → x ≡ figure (values_read s (view new) k n) → FollowsRead l h k n figure (Ok x) (with_record t i new) s v
    taken_read m x e moved is = told_total figure h k n (values_read s (view new) k n ++ drop n (new_buffer n)) x (is ∙ ap figure (sym (filled (read_value s (view new)) k n)))
        (read_steps f h i d new there kept keys of-store k n (new_buffer n) _ m (in_room (Ok m) (λ room. take_answer keys room (view (get_or t.records i d)) (Read h k n)) n e) moved refl)

-- the figure of a range is the join of its halves' figures
pub halves_join : {M : Type 0} {neutral : M} {join : M → M → M} (laws : SummaryLaws neutral join) (one : ℕ → ℕ → M) (l : Ledger) (h k n : ℕ) (t : Transaction) (x : M) → Ok x ≡ total_answer (summary_of one neutral join k) l h k n (found l.active h) → found l.active h ≡ Some t → CutsAnywhere join (λ j i. summary_of one neutral join j (map (seen l t) (range_with_len j i))) k n x
halves_join {M = M} {neutral = neutral} {join = join} laws one l h k n t x e here i j cut =
    go (in_table l.limits.keys k n) (joins t n && read_list_full t.reads k n) (e ∙ ap (total_answer (summary_of one neutral join k) l h k n) here) ∙ summary_of-halves laws one (seen l t) k i j n cut
  where
    whole : M
    whole = summary_of one neutral join k (map (seen l t) (range_with_len k n))

    go : (a b : Bool) → Ok x ≡ cond {A = Result M Fault} (not a) (Err (KeyOutside k)) (cond {A = Result M Fault} b (Err (ReadListFull h)) (Ok whole)) → x ≡ whole
    go false b q = cc
    go true true q = cc
    go true false q = cc

-- Of a kind that calls name, what is told so is the ledger's total

module _ {M : Type 0} (h k n : ℕ) (kind : SummaryKind) (figure : List ℕ → M) (named : M → Figure) (same : (xs : List ℕ) → length xs ≡ n → named (figure xs) ≡ figure_of kind k xs) where
  figure_named : (xs : List ℕ) (r : Result Done Fault) → length xs ≡ n → result_map TotalDone (result_map named (result_map (λ _. figure xs) r)) ≡ result_map (λ _. TotalDone (figure_of kind k xs)) r
  figure_named xs (Ok d) e = ap (λ z. Ok (TotalDone z)) (same xs e)
  figure_named xs (Err x) e = refl

  pub total_steps : {l : Ledger} {t : TransactionTable} {s : Store} {v : Stamps} (a : Result M Fault) (r : Result Figure Fault) → r ≡ result_map named a → (b : List ℕ) → FollowsRead l h k n figure a t s v → FollowsStep l (Total h k n kind) b (result_map TotalDone r) b t s v
  total_steps {l = l} {t = t} {s = s} {v = v} a r is b told =
      let tells = tells_figure l h k n kind b in
      let o = step l (Read h k n) (new_buffer n) in
      record {
        answer = ap (result_map TotalDone) (is ∙ ap (result_map named) (told.answer ∙ sym (told_of figure l h k n))) ∙ figure_named o.buffer o.answer (read_fills l h k n) ∙ sym tells.answer;
        buffer = sym tells.buffer;
        after = subst (λ x. Fits x t s v) (sym tells.ledger) told.after;
      }

module _ (h k n : ℕ) {l : Ledger} {t : TransactionTable} {s : Store} {v : Stamps} (r : Result Figure Fault) (b : List ℕ) where
  pub sum_steps : (a : Result Sum Fault) → r ≡ result_map (λ x. Figure.Sum x.value) a → FollowsRead l h k n (summary_of sum_one (sum_of 0) sum_join k) a t s v → FollowsStep l (Total h k n ToSum) b (result_map TotalDone r) b t s v
  sum_steps a is told = total_steps h k n ToSum (summary_of sum_one (sum_of 0) sum_join k) (λ x. Figure.Sum x.value) (λ xs e. sum_figure k xs) a r is b told

  pub smallest_steps : (a : Result Smallest Fault) → r ≡ result_map (λ x. Figure.Smallest x.least) a → FollowsRead l h k n (summary_of smallest_one smallest_none smallest_join k) a t s v → FollowsStep l (Total h k n ToSmallest) b (result_map TotalDone r) b t s v
  smallest_steps a is told = total_steps h k n ToSmallest (summary_of smallest_one smallest_none smallest_join k) (λ x. Figure.Smallest x.least) (λ xs e. smallest_figure k xs) a r is b told

  -- fewer values than 2 ^ 64 are counted
  pub non_zero_steps : n < 2 ^ 64 → (a : Result NonZero Fault) → r ≡ result_map (λ x. Figure.NonZero x.count) a → FollowsRead l h k n (summary_of non_zero_one (non_zero_of 0) non_zero_join k) a t s v → FollowsStep l (Total h k n ToNonZero) b (result_map TotalDone r) b t s v
  non_zero_steps few a is told = total_steps h k n ToNonZero (summary_of non_zero_one (non_zero_of 0) non_zero_join k) (λ x. Figure.NonZero x.count) (λ xs e. non_zero_figure k xs (subst (λ i. i < 2 ^ 64) (sym e) few)) a r is b told
