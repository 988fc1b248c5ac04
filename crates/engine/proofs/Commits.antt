-- Commit: the verdict and what it leaves are the ledger's.
use Rattle.std.proofs.Common.{◌≡◌, ℕ, ◌+◌, ◌-◌, ◌<◌, ◌≤◌, Bool, true, false, cond, ltb, List, length, set, Some, None, Ok, Option, Result, sym, refl, ap, ◌∙◌, subst, arith}
use Rattle.std.specs.List.{AllByRecursion}
use Rattle.std.specs.Option.{is_some, option_map}
use Rattle.std.proofs.lemmas.Bool.{le-leb, lt-leb, cond-true, cond-false, cond_both}
use Rattle.ledger.specs.declared.Kind.{Kind}
use Rattle.ledger.specs.declared.Kind.TheVariants.{Reader, Updater}
use Rattle.ledger.specs.declared.Fault.{Fault}
use Rattle.ledger.specs.declared.Write.{Write}
use Rattle.ledger.specs.declared.Verdict.{Verdict}
use Rattle.ledger.specs.declared.Verdict.TheVariants.{Closed, Restart, Spent, Full, Committed}
use Rattle.ledger.specs.declared.Call.TheVariants.{Commit}
use Rattle.ledger.specs.declared.Done.TheVariants.{Ended}
use Rattle.ledger.specs.Ledger.{Transaction, Ledger, Shortage, found, is_reader, shortage}
use Rattle.ledger.specs.Calls.{Outcome, accepted, maker, step, without, out_of_ticks, reclaimed, stale_read_among, read_keys, stale_read, shortage_in, reclaimed_if_short, ended, installed, full_or_committed, verdict_after, verdict, left_by, is_judged, commit_effect}
use Rattle.ledger.specs.Reach.{next}
use Rattle.ledger.specs.Orderly.{IsWellFormed}
use Rattle.ledger.proofs.Actives.{all_found}
use Rattle.ledger.proofs.Orders.{order, sound}
use Rattle.ledger.proofs.SoundActives.{well_formed_found}
use Rattle.ledger.proofs.Steps.{checked, enough}
use Rattle.ledger.proofs.Verdicts.{commit_judged as step_judged}
use Rattle.versions.specs.Stores.{Store, kept}
use Rattle.validation.specs.Stamps.{Stamps}
use Rattle.validation.specs.declared.validator.Clash.{Clash}
use Rattle.transaction_table.specs.declared.record.Next.{Next}
use Rattle.transaction_table.specs.declared.record.Next.TheVariants.{Answer, Judge}
use Rattle.transaction_table.specs.declared.record.Record.{Record}
use Rattle.transaction_table.specs.declared.table.TransactionTable.{TransactionTable}
use Rattle.transaction_table.specs.View.{active_of, view, taken}
use Rattle.transaction_table.proofs.Slots.{IsHere}
use Rattle.transaction_table.specs.Shuffle.{IsShuffle}
use Rattle.engine.specs.Fits.{Fits, limits_of}
use Rattle.engine.specs.Endings.{first_named, all_added, all_noted}
use Rattle.engine.specs.Verdicts.{FitsButForRecord}
use Rattle.engine.specs.Steps.{FollowsStep}
use Rattle.engine.proofs.Fittings.{last_is, limits_are, busy, freed_active, found_here}
use Rattle.engine.proofs.Installs.{adds, notes, holds_installed}
use Rattle.engine.proofs.Validations.{in_ledger, stale_read_named}
use Rattle.engine.proofs.Reclaims.{shortage_told}
use Rattle.engine.proofs.CallSteps.{with_record}

abbrev next_by : Kind → ℕ → Next
next_by kind h = cond (is_judged kind (Commit h)) Judge Answer

active_if_short : (l : Ledger) (n : ℕ) → (reclaimed_if_short l n).active ≡ l.active
active_if_short l n = cond_both (is_some (shortage_in l n)) (reclaimed l) l (λ m. m.active ≡ l.active) (λ _. refl) (λ _. refl)

limits_same : (z : ℕ) (s s' : Store) (v v' : Stamps) → s'.keys ≡ s.keys → s'.cells ≡ s.cells → v'.granule ≡ v.granule → limits_of z s v ≡ limits_of z s' v'
limits_same z s s' v v' a b c = rw (a, b, c)

-- the shortage whose free cells are told
shortage_some : (cells taken n free : ℕ) → Some free ≡ option_map (λ (s : Shortage). s.free) (shortage cells taken n) → shortage cells taken n ≡ Some (record { writes = n; free = free })
shortage_some cells taken n free e = go (ltb (cells - taken) n) e
  where
    go : (b : Bool) → Some free ≡ option_map (λ (s : Shortage). s.free) (cond {A = Option Shortage} b (Some (record { writes = n; free = cells - taken })) None) → cond {A = Option Shortage} b (Some (record { writes = n; free = cells - taken })) None ≡ Some (record { writes = n; free = free })
    go true q = let same : free ≡ cells - taken = cc in rw same
    go false q = cc

shortage_none : (o : Option Shortage) → None ≡ option_map (λ (s : Shortage). s.free) o → o ≡ None
shortage_none None e = refl
shortage_none (Some s) e = cc

-- From a ledger that fits, an updater u with the writes ws is judged after a reclaim where cells are short for them
module _ {l : Ledger} {t₀ : TransactionTable} {s₀ : Store} {v₀ : Stamps} (f₀ : Fits l t₀ s₀ v₀) (u : Transaction) (e : found l.active u.start ≡ Some u) (r : is_reader u.kind ≡ false) {t : TransactionTable} {s : Store} {v : Stamps} (same : t ≡ t₀) (ws : List Write) (ws-is : ws ≡ u.writes) (made : 0 < t₀.last → Fits l t₀ s₀ v₀ → Fits (reclaimed_if_short l (length ws)) t s v) where
  abbrev m : Ledger
  m = reclaimed_if_short l (length u.writes)

  f : Fits m t s v
  f = subst (λ x. Fits (reclaimed_if_short l (length x)) t s v) ws-is (made (busy f₀ u.start u e) f₀)

  here : found m.active u.start ≡ Some u
  here = ap (λ ts. found ts u.start) (active_if_short l (length u.writes)) ∙ e

  on : 0 < t.last
  on = busy f u.start u here

  fine : IsWellFormed m.limits m.clock u
  fine = (well_formed_found (sound f.reached) u.start u here).0

  named_stale_read : option_map in_ledger (first_named v u.start u.reads) ≡ stale_read m u
  named_stale_read =
      let n = limits_are f on in
      let trims = (all_found (λ x. is_reader x.kind ≡ false → m.trimmed_at ≤ x.start) m.active u.start u (order f.reached).safe.trims here).0 r in
      stale_read_named m s v (f.holds on) u.start trims u.reads (subst (λ k. AllByRecursion (λ x. (0 < x.count) × (x.first + x.count ≤ k)) u.reads) (ap (λ x. x.keys) n) fine.ranges)
      ∙ ap (λ g. stale_read_among g m.versions u.start (read_keys u.reads)) (sym (ap (λ x. x.granule) n))

  -- without a commit only the transaction ends
  loses : (b : List ℕ) (x : Verdict) → left_by m u x ≡ ended m u.start → verdict m u ≡ x → FitsButForRecord (step l (Commit u.start) b) b (without l.active u.start) x t₀ t s v
  loses b x left is =
      let h = f.holds on in
      let O : Outcome = record { answer = Ok (Ended x); buffer = b; ledger = ended m u.start } in
      let meets : FitsButForRecord O b (without l.active u.start) x t₀ t s v = record {
        answer = refl;
        buffer = refl;
        clock = f.clock;
        last = ap (λ z. z.last) same;
        records = ap (λ z. z.records) same;
        limits = f.limits;
        active = ap (λ ts. without ts u.start) (active_if_short l (length u.writes));
        holds = record { same_keys = h.same_keys; revisions = h.revisions; stamps = h.stamps };
      } in
      let outcome : Ledger → Outcome = λ k. record { answer = Ok (Ended x); buffer = b; ledger = k } in
      let judging : Verdict → Outcome = λ y. record { answer = Ok (Ended y); buffer = b; ledger = left_by m u y } in
      subst (λ (o : Outcome). FitsButForRecord o b (without l.active u.start) x t₀ t s v) (sym (step_judged l b u.start u e r ∙ ap judging is ∙ ap outcome left)) meets

  pub judge_restart : (b : List ℕ) (c : Clash) → Some c ≡ first_named v u.start u.reads → FitsButForRecord (step l (Commit u.start) b) b (without l.active u.start) (Restart c.key c.stamp) t₀ t s v
  judge_restart b c hit = loses b (Restart c.key c.stamp) refl (ap (verdict_after m u) (sym (ap (option_map in_ledger) hit ∙ named_stale_read)))

  module _ (none : None ≡ first_named v u.start u.reads) where
    none_stale : verdict m u ≡ verdict_after m u None
    none_stale = ap (verdict_after m u) (sym (ap (option_map in_ledger) none ∙ named_stale_read))

    pub judge_spent : (b : List ℕ) → t.last ≤ t.clock → FitsButForRecord (step l (Commit u.start) b) b (without l.active u.start) Spent t₀ t s v
    judge_spent b above_zero = loses b Spent refl (none_stale ∙ cond-true (out_of_ticks m.clock m.limits.last) _ _ (le-leb _ _ (omega (arith, last_is f, f.clock))))

    module _ (early : t.clock < t.last) where
      in_time : verdict m u ≡ full_or_committed m (shortage_in m (length u.writes))
      in_time = none_stale ∙ cond-false (out_of_ticks m.clock m.limits.last) _ _ (lt-leb _ _ (omega (arith, last_is f, f.clock)))

      lacking : (o : Option Shortage) → shortage s.cells (kept s) (length ws) ≡ o → verdict m u ≡ full_or_committed m o
      lacking o is = in_time ∙ ap (full_or_committed m) (sym (shortage_told f on (length u.writes)) ∙ ap (λ x. shortage s.cells (kept s) (length x)) (sym ws-is) ∙ is)

      pub judge_full : (b : List ℕ) (n : ℕ) → Some n ≡ option_map (λ (x : Shortage). x.free) (shortage s.cells (kept s) (length ws)) → FitsButForRecord (step l (Commit u.start) b) b (without l.active u.start) (Full (length ws) n) t₀ t s v
      judge_full b n short = loses b (Full (length ws) n) refl (lacking (Some (record { writes = length ws; free = n })) (shortage_some s.cells (kept s) (length ws) n short))

      -- the next tick is drawn
      abbrev ticked : TransactionTable → TransactionTable
      ticked z = record { clock = z.clock + 1; last = z.last; records = z.records }

      pub judge_committed : (b : List ℕ) → None ≡ option_map (λ (x : Shortage). x.free) (shortage s.cells (kept s) (length ws)) → (t' : TransactionTable) (s' : Store) (v' : Stamps) → t' ≡ ticked t → s' ≡ all_added (t.clock + 1) s ws → v' ≡ all_noted (t.clock + 1) v ws → FitsButForRecord (step l (Commit u.start) b) b (without l.active u.start) (Committed t'.clock) t₀ t' s' v'
      judge_committed b room t' s' v' et es ev =
          let tick : t'.clock ≡ m.clock + 1 = ap (λ z. z.clock) et ∙ ap (λ n. n + 1) (sym f.clock) in
          let last_same : t'.last ≡ t.last = ap (λ z. z.last) et in
          let n = limits_are f on in
          let o = order f.reached in
          let keys = sym (ap (λ x. x.keys) n) in
          let cells = sym (ap (λ x. x.cells) n) in
          let no_shortage = shortage_none (shortage s.cells (kept s) (length ws)) room in
          let fits = enough m.limits.cells _ (length u.writes) (sym (shortage_told f on (length u.writes)) ∙ ap (λ x. shortage s.cells (kept s) (length x)) (sym ws-is) ∙ no_shortage) in
          let a = adds m s v u o (f.holds on) keys cells fine fits in
          let w = notes m s v u o (f.holds on) keys cells fine fits in
          let S = all_added (m.clock + 1) s u.writes in
          let V = all_noted (m.clock + 1) v u.writes in
          let O : Outcome = record { answer = Ok (Ended (Committed (m.clock + 1))); buffer = b; ledger = installed m u } in
          let judging : Verdict → Outcome = λ y. record { answer = Ok (Ended y); buffer = b; ledger = left_by m u y } in
          let meets : FitsButForRecord O b (without l.active u.start) (Committed t'.clock) t₀ t' S V = record {
            answer = ap (λ c. Ok (Ended (Committed c))) tick;
            buffer = refl;
            clock = sym tick;
            last = last_same ∙ ap (λ z. z.last) same;
            records = ap (λ z. z.records) et ∙ ap (λ z. z.records) same;
            limits = f.limits ∙ ap (λ z. limits_of z s v) (sym last_same) ∙ limits_same t'.last s S v V a.keys a.cells w.granule;
            active = ap (λ ts. without ts u.start) (active_if_short l (length u.writes));
            holds = holds_installed m s v u o (f.holds on) keys cells fine fits;
          } in
          let stored : S ≡ s' = sym (es ∙ ap (λ c. all_added (c + 1) s ws) (sym f.clock) ∙ ap (all_added (m.clock + 1) s) ws-is) in
          let stamped : V ≡ v' = sym (ev ∙ ap (λ c. all_noted (c + 1) v ws) (sym f.clock) ∙ ap (all_noted (m.clock + 1) v) ws-is) in
          subst (λ (o : Outcome). FitsButForRecord o b (without l.active u.start) (Committed t'.clock) t₀ t' s' v') (sym (step_judged l b u.start u e r ∙ ap judging (lacking None no_shortage)))
          (subst (λ x. FitsButForRecord O b (without l.active u.start) (Committed t'.clock) t₀ t' x v') stored
          (subst (λ x. FitsButForRecord O b (without l.active u.start) (Committed t'.clock) t₀ t' S x) stamped meets))

-- what is left to do tells a reader from an updater

pub reader_answered : (kind : Kind) (h : ℕ) (n : Next) → n ≡ Answer → ◌≡◌ {A = Result Next Fault} (Ok n) (Ok (next_by kind h)) → is_reader kind ≡ true
reader_answered Reader h n e q = refl
reader_answered Updater h n e q = cc

pub updater_judged : (kind : Kind) (h : ℕ) (n : Next) → n ≡ Judge → ◌≡◌ {A = Result Next Fault} (Ok n) (Ok (next_by kind h)) → is_reader kind ≡ false
updater_judged Reader h n e q = cc
updater_judged Updater h n e q = refl

-- The record is freed

pub commit_steps : {l : Ledger} {t : TransactionTable} {s : Store} {v : Stamps} (f : Fits l t s v) (h i : ℕ) (at : IsHere t.records h i) (b : List ℕ) (x : Verdict) (t' : TransactionTable) (s' : Store) (v' : Stamps) (r : Record) → taken r.state ≡ false → FitsButForRecord (step l (Commit h) b) b (without l.active h) x t t' s' v' → FollowsStep l (Commit h) b (Ok (Ended x)) b (with_record t' i r) s' v'
commit_steps {l = l} f h i at b x t' s' v' r off j = record {
  answer = j.answer;
  buffer = j.buffer;
  after = record {
    reached = next (Commit h) b f.reached;
    ticks = omega (arith, j.last, f.ticks);
    limits = j.limits;
    clock = j.clock;
    active = subst (λ ts. IsShuffle ts (active_of (set t'.records i r))) (sym j.active) (subst (λ rs. IsShuffle (without l.active h) (active_of (set rs i r))) (sym j.records) (freed_active f h i at r off));
    holds = λ _. j.holds;
  };
}

module _ {l : Ledger} {t : TransactionTable} {s : Store} {v : Stamps} (f : Fits l t s v) (h i : ℕ) (at : IsHere t.records h i) (b : List ℕ) where
  -- a reader's commit needs no judging
  pub closes : is_reader (view at.at).kind ≡ true → FitsButForRecord (step l (Commit h) b) b (without l.active h) Closed t t s v
  closes reads =
      let u = view at.at in
      let has = f.holds (busy f h u (found_here f h i at)) in
      let O : Outcome = record { answer = Ok (Ended Closed); buffer = b; ledger = ended l h } in
      subst (λ (o : Outcome). FitsButForRecord o b (without l.active h) Closed t t s v) (sym (ap (λ o. checked l b (maker l.limits.keys (length b) h (Commit h) o) (commit_effect l b h)) (found_here f h i at) ∙ reader u.kind reads))
      (record { answer = refl; buffer = refl; clock = f.clock; last = refl; records = refl; limits = f.limits; active = refl; holds = record { same_keys = has.same_keys; revisions = has.revisions; stamps = has.stamps } })
    where
      reader : (kind : Kind) → is_reader kind ≡ true → accepted (commit_effect l b h (record { start = (view at.at).start; kind = kind; reads = (view at.at).reads; writes = (view at.at).writes })) ≡ record { answer = Ok (Ended Closed); buffer = b; ledger = ended l h }
      reader Reader q = refl
      reader Updater q = cc

  -- an updater's is judged by its record
  pub updates : (x : Verdict) (t' : TransactionTable) (s' : Store) (v' : Stamps) → (found l.active at.at.start ≡ Some (view at.at) → FitsButForRecord (step l (Commit at.at.start) b) b (without l.active at.at.start) x t t' s' v') → FitsButForRecord (step l (Commit h) b) b (without l.active h) x t t' s' v'
  updates x t' s' v' j =
      subst (λ k. FitsButForRecord (step l (Commit k) b) b (without l.active k) x t t' s' v') at.has (j (ap (found l.active) at.has ∙ found_here f h i at))
