-- An engine carries out a call, and one procedure after another.
use Rattle.refusals.specs.Results.{result_map}
use Rattle.std.proofs.Common.{◌≡◌, ℕ, ◌<◌, ◌^◌, List, [], ◌∷◌, ◌++◌, Ok, Err, Result, sym, refl, ap, ◌∙◌, subst, append_assoc}
use Rattle.ledger.specs.declared.Kind.{Kind}
use Rattle.ledger.specs.declared.Call.{Call}
use Rattle.ledger.specs.declared.Call.TheVariants.{Begin, Read, Total, Write, Commit, Abort, Reclaim}
use Rattle.ledger.specs.declared.Fault.{Fault}
use Rattle.ledger.specs.declared.Verdict.{Verdict}
use Rattle.ledger.specs.declared.Done.{Done}
use Rattle.ledger.specs.declared.Done.TheVariants.{Began, Read as ReadDone, Total as TotalDone, Wrote, Ended, Aborted, Reclaimed}
use Rattle.ledger.specs.declared.Figure.{Figure}
use Rattle.ledger.specs.declared.SummaryKind.{SummaryKind}
use Rattle.ledger.specs.declared.SummaryKind.TheVariants.{Sum as ToSum, Smallest as ToSmallest, NonZero as ToNonZero}
use Rattle.ledger.specs.Ledger.{Limits, Ledger}
use Rattle.ledger.specs.Calls.{step}
use Rattle.ledger.specs.History.{after_more, call_made, Made, after}
use Rattle.summaries.specs.declared.kinds.Sum.{Sum}
use Rattle.summaries.specs.declared.kinds.Smallest.{Smallest}
use Rattle.summaries.specs.declared.kinds.NonZero.{NonZero}
use Rattle.summaries.specs.Summaries.{summary_of}
use Rattle.summaries.specs.Kinds.{sum_of, sum_one, sum_join, smallest_one, smallest_none, smallest_join, non_zero_of, non_zero_one, non_zero_join}
use Rattle.versions.specs.Stores.{Store}
use Rattle.validation.specs.Stamps.{Stamps}
use Rattle.engine.specs.declared.engine.Engine.{Engine}
use Rattle.engine.specs.Parts.{FitsEngine, store_of, validator_of, table_of}
use Rattle.engine.specs.Steps.{LeadsLawfullyTo, Refines, RefinesUnlent, StaysIdle}
use Rattle.engine.specs.Totals.{TotalsRead}
use Rattle.engine.proofs.Histories.{goes_on, lawful_in}
use Rattle.engine.proofs.Totals.{sum_steps, smallest_steps, non_zero_steps}
use Rattle.procedures.specs.Procedures.{Procedure, pure, ◌>>=◌, lent_call, unlent_call, handle_in, figure_in, verdict_in, count_in, begin, read, total, write, commit, abort, reclaim, Performs}

-- the ledger after a history and more calls
after_all : (n : Limits) (ms cs : List Made) → after n (cs ++ ms) ≡ after_more (after n ms) cs
after_all n ms [] = refl
after_all n ms (c ∷ cs) = ap (λ l. (step l c.call c.given).ledger) (after_all n ms cs)

after_parts : (l : Ledger) (cs ds : List Made) → after_more l (ds ++ cs) ≡ after_more (after_more l cs) ds
after_parts l cs [] = refl
after_parts l cs (d ∷ ds) = ap (λ k. (step k d.call d.given).ledger) (after_parts l cs ds)

-- what g reads back from the answer that a result is
read_back : {X : Type 0} (f : X → Done) (g : Done → X) → ((x : X) → g (f x) ≡ x) → (r : Result X Fault) → result_map g (result_map f r) ≡ r
read_back f g reads (Ok x) = ap Ok (reads x)
read_back f g reads (Err fault) = refl

module _ {S V : Type 0} {m : S → Store} {p : V → Stamps} where
  -- no call
  pub performs_pure : {X : Type 0} {e : Engine S V} (x : X) → Performs m p e e (pure x) x
  unfolding pure
  performs_pure x = record { answer = λ l fits. refl; ledger = λ l fits. fits; history = λ n ms led. (led, lawful_in n ms led.0 led.1); idle = λ none. (refl, refl, none) }

  -- one procedure, and then the one that its answer asks for
  pub performs_on : {X Y : Type 0} {e e' e'' : Engine S V} {f : Procedure X} (g : X → Procedure Y) {x : X} {y : Y} → Performs m p e e' f x → Performs m p e' e'' (g x) y → Performs m p e e'' (f >>= g) y
  unfolding ◌>>=◌
  performs_on {e = e} {e' = e'} {e'' = e''} {f = f} g {x = x} {y = y} first second =
      record {
        answer = λ l fits. subst (λ z. y ≡ (g z (after_more l (f l).calls)).answer) (first.answer l fits) (second.answer (after_more l (f l).calls) (first.ledger l fits));
        ledger = λ l fits.
            subst (λ k. FitsEngine m p k e'')
            (ap (λ z. after_more (after_more l (f l).calls) (g z (after_more l (f l).calls)).calls) (first.answer l fits) ∙ sym (after_parts l (f l).calls (g (f l).answer (after_more l (f l).calls)).calls))
            (second.ledger (after_more l (f l).calls) (first.ledger l fits));
        history = λ n ms led.
            let l = after n ms in
            let cs = (f l).calls in
            subst (λ hs. LeadsLawfullyTo m p n hs e'')
            (ap (λ k. (g x k).calls ++ (cs ++ ms)) (after_all n ms cs)
            ∙ ap (λ z. (g z (after_more l cs)).calls ++ (cs ++ ms)) (first.answer l led.1)
            ∙ sym (append_assoc (g (f l).answer (after_more l cs)).calls cs ms))
            (second.history n (cs ++ ms) (first.history n ms led).0);
        idle = λ none.
            let same = first.idle none in
            let more = second.idle same.2 in
            (more.0 ∙ same.0, more.1 ∙ same.1, more.2);
      }

  -- a call whose answer is a result told by f, which g reads back
  performs_lent : {X : Type 0} {e e' : Engine S V} {c : Call} {b b' : List ℕ} (f : X → Done) (g : Done → X) → ((x : X) → g (f x) ≡ x) → (r : Result X Fault) → Refines m p e e' c b (result_map f r) b' → StaysIdle e e' → Performs m p e e' (lent_call c b g) (r, b')
  unfolding lent_call
  performs_lent {e = e} {e'} {c} {b} {b'} f g reads r refines still =
      record {
        answer = λ l fits.
            let q = refines l fits in
            ap (λ z. (z, b')) (sym (read_back f g reads r) ∙ ap (result_map g) q.answer) ∙ ap (λ z. (result_map g (step l c b).answer, z)) q.buffer;
        ledger = λ l fits. (refines l fits).after;
        history = λ n ms led.
            let q = refines (after n ms) led.1 in
            subst (λ hs. LeadsLawfullyTo m p n hs e')
            (ap (λ z. call_made c b z b' ∷ ms) q.answer ∙ ap (λ z. call_made c b (step (after n ms) c b).answer z ∷ ms) q.buffer)
            (goes_on m p e e' c b (result_map f r) b' refines n ms led);
        idle = still;
      }

  -- the same of a call that is lent no buffer
  performs_unlent : {X : Type 0} {e e' : Engine S V} {c : Call} (f : X → Done) (g : Done → X) → ((x : X) → g (f x) ≡ x) → (r : Result X Fault) → RefinesUnlent m p e e' c (result_map f r) → StaysIdle e e' → Performs m p e e' (unlent_call c g) r
  performs_unlent f g reads r refines still = performs_on _ (performs_lent f g reads r (refines []) still) (performs_pure r)

  pub performs_begin : {e e' : Engine S V} {kind : Kind} (r : Result ℕ Fault) → RefinesUnlent m p e e' (Begin kind) (result_map Began r) → StaysIdle e e' → Performs m p e e' (begin kind) r
  performs_begin r refines still = performs_unlent Began handle_in (λ h. refl) r refines still

  pub performs_read : {e e' : Engine S V} {h k n : ℕ} {b b' : List ℕ} (r : Result (Unit {0}) Fault) → Refines m p e e' (Read h k n) b (result_map (λ _. ReadDone n) r) b' → StaysIdle e e' → Performs m p e e' (read h k n b) (r, b')
  performs_read {n = n} r refines still = performs_lent (λ _. ReadDone n) (λ _. tt) (λ _. refl) r refines still

  pub performs_total : {e e' : Engine S V} {h k n : ℕ} {s : SummaryKind} (r : Result Figure Fault) → RefinesUnlent m p e e' (Total h k n s) (result_map TotalDone r) → StaysIdle e e' → Performs m p e e' (total h k n s) r
  performs_total r refines still = performs_unlent TotalDone figure_in (λ f. refl) r refines still

  pub performs_write : {e e' : Engine S V} {h k x : ℕ} (r : Result (Unit {0}) Fault) → RefinesUnlent m p e e' (Write h k x) (result_map (λ _. Wrote) r) → StaysIdle e e' → Performs m p e e' (write h k x) r
  performs_write r refines still = performs_unlent (λ _. Wrote) (λ _. tt) (λ _. refl) r refines still

  pub performs_commit : {e e' : Engine S V} {h : ℕ} (r : Result Verdict Fault) → RefinesUnlent m p e e' (Commit h) (result_map Ended r) → StaysIdle e e' → Performs m p e e' (commit h) r
  performs_commit r refines still = performs_unlent Ended verdict_in (λ v. refl) r refines still

  pub performs_abort : {e e' : Engine S V} {h : ℕ} (r : Result (Unit {0}) Fault) → RefinesUnlent m p e e' (Abort h) (result_map (λ _. Aborted) r) → StaysIdle e e' → Performs m p e e' (abort h) r
  performs_abort r refines still = performs_unlent (λ _. Aborted) (λ _. tt) (λ _. refl) r refines still

  pub performs_reclaim : {e e' : Engine S V} (n : ℕ) → RefinesUnlent m p e e' Reclaim (Ok (Reclaimed n)) → ((table_of e).last ≡ 0 → (n ≡ 0) × (e' ≡ e)) → Performs m p e e' reclaim n
  performs_reclaim n refines still =
      performs_on _
      (performs_unlent Reclaimed count_in (λ n. refl) (Ok n) refines (λ none. (ap store_of (still none).1, ap validator_of (still none).1, ap (λ e. (table_of e).last) (still none).1 ∙ none)))
      (performs_pure n)

-- Of a kind that calls name, what was told is the ledger's total

module _ {S V : Type 0} (m : S → Store) (p : V → Stamps) {e e' : Engine S V} {h k n : ℕ} where
  pub sum_refines : (a : Result Sum Fault) → TotalsRead m p e e' h k n (summary_of sum_one (sum_of 0) sum_join k) a → RefinesUnlent m p e e' (Total h k n ToSum) (result_map TotalDone (result_map (λ x. Figure.Sum x.value) a))
  sum_refines a told b l fits = sum_steps h k n (result_map (λ x. Figure.Sum x.value) a) b a refl (told l fits)

  pub smallest_refines : (a : Result Smallest Fault) → TotalsRead m p e e' h k n (summary_of smallest_one smallest_none smallest_join k) a → RefinesUnlent m p e e' (Total h k n ToSmallest) (result_map TotalDone (result_map (λ x. Figure.Smallest x.least) a))
  smallest_refines a told b l fits = smallest_steps h k n (result_map (λ x. Figure.Smallest x.least) a) b a refl (told l fits)

  pub non_zero_refines : n < 2 ^ 64 → (a : Result NonZero Fault) → TotalsRead m p e e' h k n (summary_of non_zero_one (non_zero_of 0) non_zero_join k) a → RefinesUnlent m p e e' (Total h k n ToNonZero) (result_map TotalDone (result_map (λ x. Figure.NonZero x.count) a))
  non_zero_refines few a told b l fits = non_zero_steps h k n (result_map (λ x. Figure.NonZero x.count) a) b few a refl (told l fits)

module _ {S V : Type 0} {m : S → Store} {p : V → Stamps} {e e' : Engine S V} {h k n : ℕ} where
  pub performs_sum : (a : Result Sum Fault) → TotalsRead m p e e' h k n (summary_of sum_one (sum_of 0) sum_join k) a → StaysIdle e e' → Performs m p e e' (total h k n ToSum) (result_map (λ x. Figure.Sum x.value) a)
  performs_sum a told still = performs_total (result_map (λ x. Figure.Sum x.value) a) (sum_refines m p a told) still

  pub performs_smallest : (a : Result Smallest Fault) → TotalsRead m p e e' h k n (summary_of smallest_one smallest_none smallest_join k) a → StaysIdle e e' → Performs m p e e' (total h k n ToSmallest) (result_map (λ x. Figure.Smallest x.least) a)
  performs_smallest a told still = performs_total (result_map (λ x. Figure.Smallest x.least) a) (smallest_refines m p a told) still

  pub performs_non_zero : n < 2 ^ 64 → (a : Result NonZero Fault) → TotalsRead m p e e' h k n (summary_of non_zero_one (non_zero_of 0) non_zero_join k) a → StaysIdle e e' → Performs m p e e' (total h k n ToNonZero) (result_map (λ x. Figure.NonZero x.count) a)
  performs_non_zero few a told still = performs_total (result_map (λ x. Figure.NonZero x.count) a) (non_zero_refines m p few a told) still
