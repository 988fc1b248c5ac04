-- What a ledger that fits knows of the engine, and what a step that changes only clock and transactions leaves.
use Rattle.std.proofs.Common.{◌≡◌, ℕ, ◌<◌, ◌≤◌, Bool, true, false, cond, eqb, List, set, Some, Err, Result, unwrap_or, sym, refl, ap, ◌∙◌, subst, arith}
use Rattle.std.proofs.lemmas.Bool.{eqb-true, ne_eqb, cond-false, cond_both}
use Rattle.ledger.specs.declared.Call.{Call}
use Rattle.ledger.specs.declared.Fault.{Fault}
use Rattle.ledger.specs.declared.Done.{Done}
use Rattle.ledger.specs.Ledger.{Transaction, Ledger, found, is_reader, value_below, newest_value, own_write, no_limits}
use Rattle.ledger.specs.Calls.{Outcome, step, refused, seen, without}
use Rattle.ledger.specs.Reach.{IsReached, next}
use Rattle.ledger.specs.Orderly.{AreApart}
use Rattle.ledger.proofs.Outlooks.{looks_at_reader}
use Rattle.ledger.proofs.Orders.{sound, dated}
use Rattle.ledger.proofs.SoundActives.{well_formed_found}
use Rattle.versions.specs.Stores.{Store, as_of, newest}
use Rattle.validation.specs.Stamps.{Stamps}
use Rattle.transaction_table.specs.declared.table.TransactionTable.{TransactionTable}
use Rattle.transaction_table.specs.View.{active_of, view, taken}
use Rattle.transaction_table.specs.declared.record.Record.{Record}
use Rattle.transaction_table.specs.Shuffle.{IsShuffle}
use Rattle.engine.specs.declared.engine.TheConstants.{LAST_TICK}
use Rattle.engine.specs.Reads.{read_value}
use Rattle.engine.specs.Fits.{Fits, Holds, limits_of, revisions_of}
use Rattle.engine.specs.Steps.{FollowsStep}
use Rattle.transaction_table.proofs.Shuffles.{shuffle_apart, shuffle_found, shuffle_kept}
use Rattle.transaction_table.proofs.Slots.{IsHere, slots_found, slots_freed}
use Rattle.engine.proofs.Revisions.{value_at, value_now}

-- only the clock and the active transactions change
abbrev pub moved : Ledger → ℕ → List Transaction → Ledger
moved l n ts = record { limits = l.limits; clock = n; active = ts; versions = l.versions; trimmed_at = l.trimmed_at }

limits_last : (z : ℕ) (s : Store) (v : Stamps) → (limits_of z s v).last ≡ z
limits_last z s v = cond_both (eqb z 0) no_limits (record { keys = s.keys; cells = s.cells; last = z; granule = v.granule }) (λ n. n.last ≡ z) (λ e. sym (eqb-true z 0 e)) (λ _. refl)

module _ {l : Ledger} {t : TransactionTable} {s : Store} {v : Stamps} (f : Fits l t s v) where
  pub last_is : l.limits.last ≡ t.last
  last_is = ap (λ n. n.last) f.limits ∙ limits_last t.last s v

  pub limits_are : 0 < t.last → l.limits ≡ record { keys = s.keys; cells = s.cells; last = t.last; granule = v.granule }
  limits_are lt = f.limits ∙ cond-false (eqb t.last 0) no_limits _ (ne_eqb t.last 0 (λ e. omega arith))

  -- where a transaction is active the check had accepted
  pub busy : (h : ℕ) (u : Transaction) → found l.active h ≡ Some u → 0 < t.last
  busy h u e = omega (arith, last_is, (dated f.reached).ticks, (well_formed_found (sound f.reached) h u e).0.drawn, (well_formed_found (sound f.reached) h u e).0.above_zero)

  pub places_apart : AreApart (active_of t.records)
  places_apart = shuffle_apart f.active (sound f.reached).apart

  pub found_same : (h : ℕ) → found l.active h ≡ found (active_of t.records) h
  found_same h = shuffle_found f.active (sound f.reached).apart h

  -- the transaction of a place is the ledger's
  pub found_here : (h i : ℕ) (here : IsHere t.records h i) → found l.active h ≡ Some (view here.at)
  found_here h i here = found_same h ∙ slots_found t.records i h here.at here.reads here.is_taken here.has places_apart

  -- what the store shows an active transaction is what the ledger does
  pub read_value_seen : (h : ℕ) (u : Transaction) → found l.active h ≡ Some u → (k : ℕ) → k < s.keys → read_value s u k ≡ seen l u k
  read_value_seen h u e k lt =
      let same : s.versions k ≡ revisions_of k l.versions = (f.holds (busy h u e)).revisions k lt in
      let then : is_reader u.kind ≡ true → (as_of u.start (s.versions k)).value ≡ value_below k u.start l.versions =
      λ r. ap (λ c. (as_of u.start c).value) same ∙ value_at f.reached k u.start (looks_at_reader l h u e r) in
      let now : (newest (s.versions k)).value ≡ newest_value k l.versions = ap (λ c. (newest c).value) same ∙ value_now f.reached k in
      either (is_reader u.kind) then now
    where
      either : (r : Bool) → (r ≡ true → (as_of u.start (s.versions k)).value ≡ value_below k u.start l.versions) → (newest (s.versions k)).value ≡ newest_value k l.versions → cond r (as_of u.start (s.versions k)).value (unwrap_or (own_write k u.writes) (newest (s.versions k)).value) ≡ cond r (value_below k u.start l.versions) (unwrap_or (own_write k u.writes) (newest_value k l.versions))
      either true q now = q refl
      either false q now = ap (unwrap_or (own_write k u.writes)) now

  -- without the transaction the ledger's are those of the table whose record is freed
  pub freed_active : (h i : ℕ) (here : IsHere t.records h i) (r : Record) → taken r.state ≡ false → IsShuffle (without l.active h) (active_of (set t.records i r))
  freed_active h i here r off = subst (IsShuffle (without l.active h)) (sym (slots_freed t.records i h here.at r here.reads here.is_taken here.has off places_apart)) (shuffle_kept _ f.active)

  -- a refusal leaves ledger and engine
  pub keeps_refused : (c : Call) (b : List ℕ) (x : Fault) → step l c b ≡ refused l b x → FollowsStep l c b (Err x) b t s v
  keeps_refused c b x e = record { answer = ap (λ o. o.answer) (sym e); buffer = ap (λ o. o.buffer) (sym e); after = subst (λ (o : Outcome). Fits o.ledger t s v) (sym e) f }

  pub keeps_moved : (c : Call) (b b' : List ℕ) (a : Result Done Fault) (n : ℕ) (ts : List Transaction) (t' : TransactionTable) → step l c b ≡ record { answer = a; buffer = b'; ledger = moved l n ts } → n ≡ t'.clock → t.last ≡ t'.last → IsShuffle ts (active_of t'.records) → FollowsStep l c b a b' t' s v
  keeps_moved c b b' a n ts t' e ticks last_same acts =
      let r : IsReached (moved l n ts) = subst (λ (o : Outcome). IsReached o.ledger) e (next c b f.reached) in
      let holds' : 0 < t'.last → Holds (moved l n ts) s v = λ p. let h = f.holds (subst (λ z. 0 < z) (sym last_same) p) in record { same_keys = h.same_keys; revisions = h.revisions; stamps = h.stamps } in
      let after : Fits (moved l n ts) t' s v = record { reached = r; ticks = subst (λ z. z ≤ LAST_TICK) last_same f.ticks; clock = ticks; limits = f.limits ∙ ap (λ z. limits_of z s v) last_same; active = acts; holds = holds' } in
      record { answer = ap (λ o. o.answer) (sym e); buffer = ap (λ o. o.buffer) (sym e); after = subst (λ (o : Outcome). Fits o.ledger t' s v) (sym e) after }
