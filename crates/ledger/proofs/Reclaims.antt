-- A reclaim changes no answer and no buffer of another call.
use Rattle.std.proofs.Common.{◌≡◌, ℕ, ◌+◌, ◌-◌, ◌≤◌, Bool, true, false, cond, not, List, [], ◌∷◌, ◌++◌, map, length, drop, Some, None, Ok, Err, Option, Result, unwrap_or, filter, sym, refl, ap, ◌∙◌, subst, arith}
use Rattle.std.specs.List.{range_with_len}
use mathlib.Core.Path.{fun_ext}
use Rattle.std.specs.Option.{is_some}
use Rattle.ledger.specs.declared.SummaryKind.{SummaryKind}
use Rattle.ledger.specs.declared.Fault.{Fault}
use Rattle.ledger.specs.declared.Verdict.{Verdict}
use Rattle.ledger.specs.declared.Verdict.TheVariants.{Closed, Spent, Committed}
use Rattle.ledger.specs.declared.Done.{Done}
use Rattle.ledger.specs.declared.Call.{Call}
use Rattle.refusals.specs.Results.{result_map}
use Rattle.ledger.specs.Figures.{figure_of}
use Rattle.ledger.specs.Ledger.{Limits, Transaction, Version, Ledger, is_reader, outlook, present_count, shortage, own_write, value_below, newest_value}
use Rattle.ledger.specs.Calls.{new_buffer, Outcome, Effect, accepted, ended, opened, seen, with_call, having_made, begin_check, by_handle, read_effect, total_effect, total_result, outcome, commit_effect, reclaimed, StaleRead, stale_read, read_keys, shortage_in, reclaimed_if_short, stamped, out_of_ticks, full_or_committed, verdict_after, verdict, left_by, is_judged, judged, step}
use Rattle.ledger.specs.History.{is_reclaim, Made, after, IsTold, others, asked}
use Rattle.ledger.specs.Laws.{ReclaimLaw, VerdictLaw}
use Rattle.ledger.proofs.Actives.{call_keeps}
use Rattle.ledger.proofs.Steps.{checked, none_short, not_short}
use Rattle.ledger.proofs.Presence.{value_same, newest_same, stale_read_same}
use Rattle.ledger.proofs.Outlooks.{Narrows, narrows_same, outlook_opened, outlook_ended, outlook_changed, outlook_installed}
use Rattle.ledger.proofs.Deaths.{swept, bare_swept, swept_more, swept_again, present_swept}

-- the ledger with other versions in the cells, trimmed at another tick
abbrev like : Ledger → List Version → ℕ → Ledger
like l vs n = record { limits = l.limits; clock = l.clock; active = l.active; versions = vs; trimmed_at = n }

-- a reclaim of each leaves the same versions
pub data IsAlike (l : Ledger) : Ledger → Type 0 where
  alike : (vs : List Version) (n : ℕ) → swept (outlook l) l.versions ≡ swept (outlook l) vs → IsAlike l (like l vs n)

pub record Agrees (o p : Outcome) : Type 0 where
  pub answer : o.answer ≡ p.answer
  pub buffer : o.buffer ≡ p.buffer
  pub ledger : IsAlike o.ledger p.ledger

record AgreesInEffect (o p : Effect) : Type 0 where
  pub done : o.done ≡ p.done
  pub buffer : o.buffer ≡ p.buffer
  pub ledger : IsAlike o.ledger p.ledger

agree_accepted : (o p : Effect) → AgreesInEffect o p → Agrees (accepted o) (accepted p)
agree_accepted o p a = record { answer = ap Ok a.done; buffer = a.buffer; ledger = a.ledger }

-- Ledgers that are alike

module _ (l : Ledger) (vs : List Version) (n : ℕ) (e : swept (outlook l) l.versions ≡ swept (outlook l) vs) where
  abbrev other : Ledger
  other = like l vs n

  -- calls that pass the same check agree if their effects do
  agree_checked : {X : Type 0} (b : List ℕ) (r : Result X Fault) (f g : X → Effect) → ((x : X) → AgreesInEffect (f x) (g x)) → Agrees (checked l b r f) (checked other b r g)
  agree_checked b (Ok x) f g a = agree_accepted (f x) (g x) (a x)
  agree_checked b (Err x) f g a = record { answer = refl; buffer = refl; ledger = alike vs n e }

  -- only the clock and the active transactions change, and the outlook narrows
  alike_moved : (c : ℕ) (ts : List Transaction) → Narrows (outlook l) (outlook (record { limits = l.limits; clock = c; active = ts; versions = l.versions; trimmed_at = l.trimmed_at })) → IsAlike (record { limits = l.limits; clock = c; active = ts; versions = l.versions; trimmed_at = l.trimmed_at }) (record { limits = l.limits; clock = c; active = ts; versions = vs; trimmed_at = n })
  alike_moved c ts le = alike vs n (swept_more (outlook l) _ [] l.versions vs le e)

  alike_ended : (h : ℕ) → IsAlike (ended l h) (ended other h)
  alike_ended h = alike_moved l.clock (ended l h).active (outlook_ended l h)

  alike_call : (h : ℕ) (c : Call) → IsAlike (with_call l h c) (with_call other h c)
  alike_call h c = alike_moved l.clock (with_call l h c).active (narrows_same (sym (outlook_changed l h (λ u. having_made u c) (call_keeps c))))

  alike_left : (t : Transaction) (v : Verdict) → IsAlike (left_by l t v) (left_by other t v)
  alike_left t (Committed c) = alike _ n (swept_more (outlook l) _ (stamped (l.clock + 1) t.writes) l.versions vs (outlook_installed l t) e)
  alike_left t _ = alike_ended t.start

  verdict_same : (t : Transaction) → shortage_in l (length t.writes) ≡ shortage_in other (length t.writes) → verdict l t ≡ verdict other t
  verdict_same t room = go (stale_read l t) ∙ ap (verdict_after other t) (stale_read_same l.versions vs (bare_swept (outlook l) l.versions vs e) l.limits.granule t.start (read_keys t.reads))
    where
      go : (o : Option StaleRead) → verdict_after l t o ≡ verdict_after other t o
      go (Some c) = refl
      go None = ap (λ s. cond (out_of_ticks l.clock l.limits.last) Spent (full_or_committed l s)) room

  agree_judged : (b : List ℕ) (t : Transaction) → shortage_in l (length t.writes) ≡ shortage_in other (length t.writes) → AgreesInEffect (judged l b t) (judged other b t)
  agree_judged b t room =
      let v = verdict_same t room in
      record { done = ap Done.Ended v; buffer = refl; ledger = subst (λ x. IsAlike (left_by l t (verdict l t)) (left_by other t x)) v (alike_left t (verdict l t)) }

  seen_same : (t : Transaction) (k : ℕ) → seen l t k ≡ seen other t k
  seen_same t k =
      let b = bare_swept (outlook l) l.versions vs e in
      ap (λ x. cond (is_reader t.kind) x (unwrap_or (own_write k t.writes) (newest_value k l.versions))) (value_same l.versions vs b k t.start)
      ∙ ap (λ x. cond (is_reader t.kind) (value_below k t.start vs) (unwrap_or (own_write k t.writes) x)) (newest_same l.versions vs b k)

-- Short of cells

module _ (l : Ledger) (vs : List Version) (n : ℕ) (e : swept (outlook l) l.versions ≡ swept (outlook l) vs) where
  abbrev two : Ledger
  two = like l vs n

  left_same : present_count (reclaimed l) ≡ present_count (reclaimed two)
  left_same = ap (λ us. length (filter (λ v. v.present) us)) e

  -- each commit reclaims or not, as its own cells are short, and is as short of cells afterwards
  agree_if_short : (b : List ℕ) (t : Transaction) → AgreesInEffect (judged (reclaimed_if_short l (length t.writes)) b t) (judged (reclaimed_if_short two (length t.writes)) b t)
  agree_if_short b t = go (is_some (shortage_in l (length t.writes))) (is_some (shortage_in two (length t.writes))) refl refl
    where
      few : present_count (reclaimed l) ≤ present_count l
      few = present_swept (outlook l) l.versions l.versions

      few' : present_count (reclaimed two) ≤ present_count two
      few' = present_swept (outlook l) vs vs

      none : (taken : ℕ) → (length t.writes) ≤ l.limits.cells - taken → shortage l.limits.cells taken (length t.writes) ≡ None
      none taken le = none_short l.limits.cells taken (length t.writes) le

      go : (a z : Bool) → is_some (shortage_in l (length t.writes)) ≡ a → is_some (shortage_in two (length t.writes)) ≡ z → AgreesInEffect (judged (cond a (reclaimed l) l) b t) (judged (cond z (reclaimed two) two) b t)
      go true true p q = agree_judged (reclaimed l) (swept (outlook l) vs) _ (ap (swept (outlook l)) e) b t (ap (λ x. shortage l.limits.cells x (length t.writes)) left_same)
      go true false p q =
          let le = not_short l.limits.cells (present_count two) (length t.writes) q in
          agree_judged (reclaimed l) vs n (swept_again (outlook l) l.versions ∙ e) b t (none (present_count (reclaimed l)) (omega (arith, le, few', left_same)) ∙ sym (none (present_count two) le))
      go false true p q =
          let le = not_short l.limits.cells (present_count l) (length t.writes) p in
          agree_judged l (swept (outlook l) vs) _ (e ∙ sym (swept_again (outlook l) vs)) b t (none (present_count l) le ∙ sym (none (present_count (reclaimed two)) (omega (arith, le, few, left_same))))
      go false false p q = agree_judged l vs n e b t (none (present_count l) (not_short l.limits.cells (present_count l) (length t.writes) p) ∙ sym (none (present_count two) (not_short l.limits.cells (present_count two) (length t.writes) q)))

  agree_commit : (b : List ℕ) (h : ℕ) (t : Transaction) → AgreesInEffect (commit_effect l b h t) (commit_effect two b h t)
  agree_commit b h t = go (is_judged t.kind (Call.Commit h))
    where
      go : (j : Bool) → AgreesInEffect (cond j (judged (reclaimed_if_short l (length t.writes)) b t) (record { done = Done.Ended Closed; buffer = b; ledger = ended l h })) (cond j (judged (reclaimed_if_short two (length t.writes)) b t) (record { done = Done.Ended Closed; buffer = b; ledger = ended two h }))
      go true = agree_if_short b t
      go false = record { done = refl; buffer = refl; ledger = alike_ended l vs n e h }

  agree_read : (b : List ℕ) (h k m : ℕ) (t : Transaction) → AgreesInEffect (read_effect l b h k m t) (read_effect two b h k m t)
  agree_read b h k m t = record {
    done = refl;
    buffer = ap (λ xs. xs ++ drop m b) (ap (λ f. map f (range_with_len k m)) (fun_ext (seen_same l vs n e t)));
    ledger = alike_call l vs n e h (Call.Read h k m);
  }

  -- what agrees as a read agrees as a total
  agree_total : (b : List ℕ) (h k m : ℕ) (s : SummaryKind) → Agrees (outcome l b (total_result l b h k m s)) (outcome two b (total_result two b h k m s))
  agree_total b h k m s = go (by_handle l (new_buffer m) h (Call.Read h k m))
    where
      go : (r : Result Transaction Fault) → Agrees (checked l b (result_map (read_effect l (new_buffer m) h k m) r) (total_effect b k s)) (checked two b (result_map (read_effect two (new_buffer m) h k m) r) (total_effect b k s))
      go (Ok t) =
          let a = agree_read (new_buffer m) h k m t in
          record { answer = ap (λ xs. Ok (Done.Total (figure_of s k xs))) a.buffer; buffer = refl; ledger = a.ledger }
      go (Err x) = record { answer = refl; buffer = refl; ledger = alike vs n e }

agree_step : {l m : Ledger} → IsAlike l m → (c : Call) (b : List ℕ) → is_reclaim c ≡ false → Agrees (step l c b) (step m c b)
agree_step {l = l} (alike vs n e) (Call.Begin kind) b r = agree_checked l vs n e b (begin_check (length l.active) l.clock l.limits.last) _ _ (λ _. record { done = refl; buffer = refl; ledger = alike_moved l vs n e (l.clock + 1) (opened l kind).active (outlook_opened l kind) })
agree_step {l = l} (alike vs n e) (Call.Read h k m) b r = agree_checked l vs n e b (by_handle l b h (Call.Read h k m)) _ _ (agree_read l vs n e b h k m)
agree_step {l = l} (alike vs n e) (Call.Total h k m s) b r = agree_total l vs n e b h k m s
agree_step {l = l} (alike vs n e) (Call.Write h k x) b r = agree_checked l vs n e b (by_handle l b h (Call.Write h k x)) _ _ (λ _. record { done = refl; buffer = refl; ledger = alike_call l vs n e h (Call.Write h k x) })
agree_step {l = l} (alike vs n e) (Call.Commit h) b r = agree_checked l vs n e b (by_handle l b h (Call.Commit h)) _ _ (agree_commit l vs n e b h)
agree_step {l = l} (alike vs n e) (Call.Abort h) b r = agree_checked l vs n e b (by_handle l b h (Call.Abort h)) _ _ (λ _. record { done = refl; buffer = refl; ledger = alike_ended l vs n e h })
agree_step {l = l} (alike vs n e) Call.Reclaim b r = cc

alike_reclaimed : {l m : Ledger} → IsAlike l m → IsAlike (reclaimed l) m
alike_reclaimed {l = l} (alike vs n e) = alike vs n (swept_again (outlook l) l.versions ∙ e)

pub verdicts : VerdictLaw
verdicts l r h b = (agree_step (alike_reclaimed {l = l} {m = l} (alike l.versions l.trimmed_at refl)) (Call.Commit h) b refl).answer

-- Whole histories

reclaim_is : (c : Call) → is_reclaim c ≡ true → c ≡ Call.Reclaim
reclaim_is Call.Reclaim e = refl
reclaim_is _ e = cc

-- with the reclaims struck out, the history is told too
told_others : (n : Limits) (ms : List Made) → IsTold n ms → IsTold n (others ms) × IsAlike (after n ms) (after n (others ms))
told_others n [] t = (tt, alike [] 0 refl)
told_others n (m ∷ ms) t = go (is_reclaim m.call) refl (told_others n ms t.2)
  where
    go : (b : Bool) → is_reclaim m.call ≡ b → IsTold n (others ms) × IsAlike (after n ms) (after n (others ms)) → IsTold n (cond (not b) (m ∷ others ms) (others ms)) × IsAlike (after n (m ∷ ms)) (after n (cond (not b) (m ∷ others ms) (others ms)))
    go true e ih = (ih.0, subst (λ c. IsAlike (step (after n ms) c m.given).ledger (after n (others ms))) (sym (reclaim_is m.call e)) (alike_reclaimed ih.1))
    go false e ih = let a = agree_step ih.1 m.call m.given e in ((t.0 ∙ a.answer, t.1 ∙ a.buffer, ih.0), a.ledger)

pub cons_parts : {X : Type 0} (x y : X) (xs ys : List X) → x ∷ xs ≡ y ∷ ys → (x ≡ y) × (xs ≡ ys)
cons_parts x y xs ys e = (cc, cc)

made_same : (x y : Made) → x.call ≡ y.call → x.given ≡ y.given → x.answer ≡ y.answer → x.left ≡ y.left → x ≡ y
made_same x y a b c d =
    let mk : Call → List ℕ → Result Done Fault → List ℕ → Made = λ p q r s. record { call = p; given = q; answer = r; left = s } in
    ap (λ p. mk p x.given x.answer x.left) a ∙ ap (λ p. mk y.call p x.answer x.left) b ∙ ap (λ p. mk y.call y.given p x.left) c ∙ ap (λ p. mk y.call y.given y.answer p) d

-- the calls and the buffers lent tell the answers and the buffers left
told_same : (n : Limits) (xs ys : List Made) → IsTold n xs → IsTold n ys → asked xs ≡ asked ys → xs ≡ ys
told_same n [] [] p q e = refl
told_same n [] (y ∷ ys) p q e = cc
told_same n (x ∷ xs) [] p q e = cc
told_same n (x ∷ xs) (y ∷ ys) p q e =
    let parts = cons_parts (x.call, x.given) (y.call, y.given) (asked xs) (asked ys) e in
    let rest = parts.1 in
    let call = ap (λ z. z.0) parts.0 in
    let given = ap (λ z. z.1) parts.0 in
    let ih : xs ≡ ys = told_same n xs ys p.2 q.2 rest in
    let o = ap (λ l. step l x.call x.given) (ap (after n) ih) ∙ ap (λ c. step (after n ys) c x.given) call ∙ ap (λ b. step (after n ys) y.call b) given in
    let answer : x.answer ≡ y.answer = p.0 ∙ ap (λ z. z.answer) o ∙ sym q.0 in
    let left : x.left ≡ y.left = p.1 ∙ ap (λ z. z.buffer) o ∙ sym q.1 in
    let same = made_same x y call given answer left in
    ap (λ z. z ∷ xs) same ∙ ap (λ zs. y ∷ zs) ih

pub unmoved : ReclaimLaw
unmoved n ms p ns q e = told_same n (others ns) (others ms) (told_others n ns q).0 (told_others n ms p).0 e
