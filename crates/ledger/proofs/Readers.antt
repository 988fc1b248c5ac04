-- What a reader is shown.
use Rattle.std.proofs.Common.{◌≡◌, ℕ, suc, ◌+◌, ◌-◌, true, false, List, ◌∷◌, ◌++◌, map, length, drop, Some, None, Ok, Err, Option, Result, sym, refl, ap, ◌∙◌, arith}
use Rattle.std.specs.List.{range_with_len}
use Rattle.refusals.specs.Results.{result_map}
use mathlib.Core.Path.{fun_ext}
use Rattle.std.proofs.lemmas.Bool.{not-false}
use Rattle.ledger.specs.declared.Kind.TheVariants.{Reader}
use Rattle.ledger.specs.declared.Call.{Call}
use Rattle.ledger.specs.declared.Done.{Done}
use Rattle.ledger.specs.declared.Fault.{Fault}
use Rattle.ledger.specs.Figures.{figure_of}
use Rattle.ledger.specs.Ledger.{Limits, Transaction, Ledger, found, is_reader, value_below}
use Rattle.ledger.specs.Calls.{new_buffer, Effect, outcome, total_effect, maker, by_handle, transaction_check, begin_check, begin_effect, read_effect, step, opened, seen}
use Rattle.ledger.specs.History.{Made, call_made, after, IsTold, updater_in}
use Rattle.ledger.specs.Serial.{table}
use Rattle.ledger.specs.Laws.{MomentLaw, FigureMomentLaw}
use Rattle.ledger.proofs.SoundActives.{well_formed_found}
use Rattle.ledger.proofs.Histories.{inv, table_is}
use Rattle.ledger.proofs.Steps.{checked, read_way, filled}
use Rattle.ledger.proofs.Totals.{figure_same}
use Rattle.ledger.proofs.Restarts.{tells}

-- a call that is accepted has passed its check, and has its effect
passed : {X : Type 0} (l : Ledger) (b : List ℕ) (r : Result X Fault) (effect : X → Effect) (d : Done) → Ok d ≡ (checked l b r effect).answer → (x : X) × (r ≡ Ok x)
passed l b (Ok x) effect d e = (x, refl)
passed l b (Err f) effect d e = cc

-- an accepted read, by an active transaction
read_by_one : (l : Ledger) (b : List ℕ) (h k c : ℕ) → Ok (Done.Read c) ≡ (step l (Call.Read h k c) b).answer → (t : Transaction) × ((found l.active h ≡ Some t) × ((step l (Call.Read h k c) b).buffer ≡ map (seen l t) (range_with_len k c) ++ drop c b))
read_by_one l b h k c e =
    let p = passed l b (by_handle l b h (Call.Read h k c)) (read_effect l b h k c) (Done.Read c) e in
    (p.0, (by_found (found l.active h) p.0 p.1, ap (λ r. (checked l b r (read_effect l b h k c)).buffer) p.1))
  where
    by_found : (o : Option Transaction) (t : Transaction) → maker l.limits.keys (length b) h (Call.Read h k c) o ≡ Ok t → o ≡ Some t
    by_found None t q = cc
    by_found (Some u) t q = ap Some (same (transaction_check l.limits.keys (length b) u (Call.Read h k c)) q)
      where
        same : (r : Result (Unit {0}) Fault) → result_map (λ _. u) r ≡ Ok t → u ≡ t
        same (Ok x) q = cc
        same (Err f) q = cc

module _ (n : Limits) (ms : List Made) (told : IsTold n ms) where
  module _ (h : ℕ) (t : Transaction) (f : found (after n ms).active h ≡ Some t) (reader : updater_in h ms ≡ false) where
    reads_only : is_reader t.kind ≡ true
    reads_only = not-false (is_reader t.kind) (sym ((tells n ms told).active h t f).kind ∙ reader)

    -- its start is its handle, a tick that was drawn
    seen_before : (j : ℕ) → seen (after n ms) t j ≡ table ms (h - 1) j
    seen_before j =
        let i = inv n ms told in
        let p = well_formed_found i.fine h t f in
        let start : t.start ≡ suc (h - 1) = omega (arith, p.0.above_zero, p.1) in
        rw reads_only (ap (λ x. value_below j x (after n ms).versions) start ∙ i.value (h - 1) j (omega (arith, p.0.drawn, p.1)) ∙ ap (λ v. v j) (sym (table_is ms (h - 1))))

pub moment : MomentLaw
moment n ms h k c b b' told reader =
    let q = read_by_one (after n ms) b h k c told.0 in
    told.1 ∙ q.1.1 ∙ ap (λ xs. xs ++ drop c b) (ap (λ f. map f (range_with_len k c)) (fun_ext (seen_before n ms told.2 h q.0 q.1.0 reader)))

-- the same, told in a figure
pub figure_moment : FigureMomentLaw
figure_moment n ms h k c s f b b' told reader =
    let l = after n ms in
    read_way l (new_buffer c) h k c (λ r. Ok (Done.Total f) ≡ (outcome l b (result_map (total_effect b k s) r)).answer → f ≡ figure_of s k (map (table ms (h - 1)) (range_with_len k c))) (λ _ q. cc)
    (λ t e inside room q. figure_same f _ q ∙ ap (figure_of s k) (filled (seen l t) k c ∙ ap (λ f. map f (range_with_len k c)) (fun_ext (seen_before n ms told.2 h t e reader))))
    told.0

-- an accepted begin of a reader
begun_by_one : (l : Ledger) (b : List ℕ) (h : ℕ) → Ok (Done.Began h) ≡ (step l (Call.Begin Reader) b).answer → (h ≡ l.clock + 1) × ((step l (Call.Begin Reader) b).ledger ≡ opened l Reader)
begun_by_one l b h e =
    let r = begin_check (length l.active) l.clock l.limits.last in
    let effect : Unit {0} → Effect = λ _. begin_effect l b Reader in
    let p = passed l b r effect (Done.Began h) e in
    let o = ap (λ x. checked l b x effect) p.1 in
    (tick (e ∙ ap (λ x. x.answer) o), ap (λ x. x.ledger) o)
  where
    tick : ◌≡◌ {A = Result Done Fault} (Ok (Done.Began h)) (Ok (Done.Began (l.clock + 1))) → h ≡ l.clock + 1
    tick q = cc

-- a reader begins now
abbrev pub begin_now : ℕ → List ℕ → List ℕ → Made
begin_now h d d' = call_made (Call.Begin Reader) d (Ok (Done.Began h)) d'

module _ (n : Limits) (ms : List Made) (h : ℕ) (d d' : List ℕ) (told : IsTold n (begin_now h d d' ∷ ms)) where
  abbrev l : Ledger
  l = after n ms

  begun : (h ≡ l.clock + 1) × ((step l (Call.Begin Reader) d).ledger ≡ opened l Reader)
  begun = begun_by_one l d h told.0

  pub no_updater : updater_in h (begin_now h d d' ∷ ms) ≡ false
  no_updater = ((tells n ms told.2).silent h (omega (arith, begun.0))).1

  -- the table below its start is the table as it is
  pub table_begun : table (begin_now h d d' ∷ ms) (h - 1) ≡ table ms l.clock
  table_begun = fun_ext (λ j.
      let here = (inv n (begin_now h d d' ∷ ms) told).value (h - 1) j (omega (arith, begun.0, ap (λ (x : Ledger). x.clock) begun.1)) in
      let there = (inv n ms told.2).value l.clock j (omega arith) in
      let tick : h - 1 ≡ l.clock = omega (arith, begun.0) in
      ap (λ v. v j) (table_is (begin_now h d d' ∷ ms) (h - 1)) ∙ sym here ∙ ap (λ x. value_below j (suc x) (after n (begin_now h d d' ∷ ms)).versions) tick ∙ ap (λ (x : Ledger). value_below j (suc l.clock) x.versions) begun.1 ∙ there ∙ ap (λ v. v j) (sym (table_is ms l.clock)))
