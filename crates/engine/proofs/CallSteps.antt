-- What begin, read, write and abort do is the ledger's step.
use Rattle.std.proofs.Common.{◌≡◌, ℕ, ◌+◌, ◌<◌, ◌≤◌, Bool, true, false, cond, not, eqb, ltb, leb, List, [], ◌∷◌, ◌++◌, map, length, get_or, drop, position, set, Some, None, Ok, Err, Result, sym, refl, ap, ◌∙◌, subst}
use Rattle.std.specs.List.{AllByRecursion, slice_get, range_with_len}
use Rattle.std.proofs.ByRecursion.{All-weaker}
use Rattle.std.specs.Result.{result_and, OnOk, OnErr}
use Rattle.refusals.specs.Results.{result_map}
use Rattle.std.proofs.lemmas.Bool.{leb-true, cond_both}
use Rattle.std.proofs.lemmas.List.{set-get_or}
use Rattle.std.proofs.lemmas.Option.{get_or_from_slice_get}
use Rattle.ledger.specs.declared.Kind.{Kind}
use Rattle.ledger.specs.declared.Call.{Call}
use Rattle.ledger.specs.declared.Call.TheVariants.{Begin, Read, Write, Abort}
use Rattle.ledger.specs.declared.Fault.{Fault}
use Rattle.ledger.specs.declared.Fault.TheVariants.{KeyOutside, ShortBuffer, NoTransaction}
use Rattle.ledger.specs.declared.Done.{Done}
use Rattle.ledger.specs.declared.Done.TheVariants.{Began, Read as ReadDone, Wrote, Aborted}
use Rattle.ledger.specs.Ledger.{Transaction, Ledger, found}
use Rattle.ledger.specs.Calls.{Effect, accepted, refused, step, transaction_check, join_check, maker, by_handle, in_table, begin_check, begin_effect, write_effect, read_effect, abort_effect, with_active, without, changed, fresh, seen, joined, having_made}
use Rattle.versions.specs.Stores.{Store}
use Rattle.validation.specs.Stamps.{Stamps}
use Rattle.transaction_table.specs.declared.record.Next.{Next}
use Rattle.transaction_table.specs.declared.record.Record.{Record}
use Rattle.transaction_table.specs.declared.table.TransactionTable.{TransactionTable}
use Rattle.transaction_table.specs.View.{active_of, view, taken}
use Rattle.transaction_table.specs.Next.{next_of, take_answer}
use Rattle.transaction_table.specs.Slots.{has_handle, begin_answer, begun, begun_active}
use Rattle.transaction_table.specs.Shuffle.{IsShuffle, keep, join}
use Rattle.transaction_table.proofs.Shuffles.{shuffle_length, shuffle_map}
use Rattle.transaction_table.proofs.Slots.{IsHere, here_from, found_none, slots_put, slice_get-set}
use Rattle.engine.specs.Reads.{read_value}
use Rattle.engine.specs.Fits.{Fits}
use Rattle.engine.specs.Steps.{FollowsStep}
use Rattle.ledger.proofs.Steps.{checked}
use Rattle.ledger.proofs.Serials.{map_all}
use Rattle.engine.proofs.Fills.{read_value_joined, keys_below}
use Rattle.engine.proofs.Fittings.{last_is, limits_are, busy, places_apart, found_same, found_here, read_value_seen, freed_active, keeps_refused, keeps_moved}

-- A check is passed or not, whatever it gives

map_ok : {X Y : Type 0} (n m : Y) (u : X) (r : Result (Unit {0}) Fault) → Ok n ≡ result_map (λ _. m) r → (result_map (λ _. u) r ≡ Ok u) × (n ≡ m)
map_ok n m u (Ok x) e = (refl, cc)
map_ok n m u (Err x) e = cc

map_err : {X Y : Type 0} (f : Fault) (m : Y) (u : X) (r : Result (Unit {0}) Fault) → Err f ≡ result_map (λ _. m) r → result_map (λ _. u) r ≡ Err f
map_err f m u (Ok x) e = cc
map_err f m u (Err x) e = cc

-- a read that is admitted lies in the table
admitted_read : (keys room : ℕ) (u : Transaction) (h k n : ℕ) (m : Next) → Ok m ≡ take_answer keys room u (Read h k n) → k + n ≤ keys
admitted_read keys room u h k n m e = go (in_table keys k n) refl e
  where
    go : (inside : Bool) → leb (k + n) keys ≡ inside → Ok m ≡ result_map (λ _. next_of u (Read h k n)) (result_and (cond {A = Result (Unit {0}) Fault} (not inside) (Err (KeyOutside k)) (cond {A = Result (Unit {0}) Fault} (ltb room n) (Err (ShortBuffer room)) (Ok tt))) (join_check h u k n)) → k + n ≤ keys
    go false d q = cc
    go true d q = leb-true (k + n) keys d

-- one record was changed
abbrev pub with_record : TransactionTable → ℕ → Record → TransactionTable
with_record t i r = record { clock = t.clock; last = t.last; records = set t.records i r }

-- a record that is as it was
kept_record : (t : TransactionTable) (i : ℕ) (d r : Record) → r ≡ get_or t.records i d → with_record t i r ≡ t
kept_record t i d r e = ap (λ (rs : List Record). record { clock = t.clock; last = t.last; records = rs }) (ap (set t.records i) e ∙ set-get_or t.records i d)

module _ {l : Ledger} {t : TransactionTable} {s : Store} {v : Stamps} (f : Fits l t s v) where
  -- Begin

  same_check : begin_check (length (active_of t.records)) t.clock t.last ≡ begin_check (length l.active) l.clock l.limits.last
  same_check = ap (λ n. begin_check n t.clock t.last) (sym (shuffle_length f.active)) ∙ ap (λ c. begin_check (length l.active) c t.last) (sym f.clock) ∙ ap (begin_check (length l.active) l.clock) (sym (last_is f))

  pub begin_steps : (kind : Kind) (b : List ℕ) (r : Result ℕ Fault) (t' : TransactionTable) → r ≡ begin_answer t → OnOk r (t' ≡ begun kind t) → OnErr r (t' ≡ t) → IsShuffle (begun_active r kind t.records) (active_of t'.records) → FollowsStep l (Begin kind) b (result_map Began r) b t' s v
  begin_steps kind b r t' e moves stays acts = go (begin_check (length l.active) l.clock l.limits.last) r refl (e ∙ ap (result_map (λ _. t.clock + 1)) same_check) moves stays acts
    where
      by : (c : Result (Unit {0}) Fault) → begin_check (length l.active) l.clock l.limits.last ≡ c → step l (Begin kind) b ≡ checked l b c (λ _. begin_effect l b kind)
      by c d = ap (λ x. checked l b x (λ _. begin_effect l b kind)) d

      go : (c : Result (Unit {0}) Fault) (r : Result ℕ Fault) → begin_check (length l.active) l.clock l.limits.last ≡ c → r ≡ result_map (λ _. t.clock + 1) c → OnOk r (t' ≡ begun kind t) → OnErr r (t' ≡ t) → IsShuffle (begun_active r kind t.records) (active_of t'.records) → FollowsStep l (Begin kind) b (result_map Began r) b t' s v
      go (Err x) r d e moves stays acts =
          let same = subst (λ r. OnErr r (t' ≡ t)) e stays in
          rw (e, same) (keeps_refused f (Begin kind) b x (by (Err x) d))
      go (Ok x) r d e moves stays acts =
          let is = subst (λ r. OnOk r (t' ≡ begun kind t)) e moves in
          rw (e, ← f.clock) (keeps_moved f (Begin kind) b b (Ok (Began (l.clock + 1))) (l.clock + 1) (fresh (l.clock + 1) kind ∷ l.active) t' (by (Ok x) d) (ap (λ n. n + 1) f.clock ∙ sym (ap (λ z. z.clock) is)) (sym (ap (λ z. z.last) is))
          (join (keep f.active) (subst (λ n. IsShuffle (fresh (n + 1) kind ∷ active_of t.records) (active_of t'.records)) (sym f.clock) (subst (λ r. IsShuffle (begun_active r kind t.records) (active_of t'.records)) e acts))))

  -- A call under a handle

  -- no record is taken with the handle
  pub missing_steps : {X : Type 0} (by : X → Done) (c : Call) (b : List ℕ) (h : ℕ) (effect : Transaction → Effect) (r : Result X Fault) → step l c b ≡ checked l b (by_handle l b h c) effect → (r ≡ Err (NoTransaction h)) × (None ≡ position (has_handle h) t.records) → FollowsStep l c b (result_map by r) b t s v
  missing_steps by c b h effect r told (is, none) =
      rw is (keeps_refused f c b (NoTransaction h) (told ∙ ap (λ o. checked l b (maker l.limits.keys (length b) h c o) effect) (found_same f h ∙ found_none t.records h none)))

  -- the record at i, of the transaction with the handle, became new by taking a call
  module _ (h i : ℕ) (d new : Record) (there : Some i ≡ position (has_handle h) t.records) (kept : new.state ≡ (get_or t.records i d).state) (keys : ℕ) (of-store : keys ≡ s.keys) (c : Call) (b : List ℕ) where
    abbrev pub here : IsHere t.records h i
    here = here_from t.records h i d there

    abbrev u : Transaction
    u = view here.at

    keys_are : l.limits.keys ≡ keys
    keys_are = ap (λ n. n.keys) (limits_are f (busy f h _ (found_here f h i here))) ∙ sym of-store

    pub is_taken : taken new.state ≡ true
    is_taken = ap taken kept ∙ here.is_taken

    made_by : by_handle l b h c ≡ result_map (λ _. u) (transaction_check keys (length b) u c)
    made_by = ap (λ k. maker k (length b) h c (found l.active h)) keys_are ∙ ap (maker keys (length b) h c) (found_here f h i here)

    passes : (effect : Transaction → Effect) (n : Next) → Ok n ≡ take_answer keys (length b) u c → checked l b (by_handle l b h c) effect ≡ accepted (effect u)
    passes effect n e = ap (λ r. checked l b r effect) (made_by ∙ (map_ok n (next_of u c) u (transaction_check keys (length b) u c) e).0)

    fails : (effect : Transaction → Effect) (x : Fault) → Err x ≡ take_answer keys (length b) u c → checked l b (by_handle l b h c) effect ≡ refused l b x
    fails effect x e = ap (λ r. checked l b r effect) (made_by ∙ map_err x (next_of u c) u (transaction_check keys (length b) u c) e)

    -- what the call leaves of the transactions
    moved : view new ≡ having_made u c → IsShuffle (changed l.active h (λ x. having_made x c)) (active_of (with_record t i new).records)
    moved is = subst (IsShuffle (changed l.active h (λ x. having_made x c))) (sym (slots_put t.records i h here.at new (λ x. having_made x c) here.reads here.is_taken here.has is_taken is (places_apart f))) (shuffle_map _ f.active)

    -- the record took the call
    took : (b' : List ℕ) (a : Done) → step l c b ≡ record { answer = Ok a; buffer = b'; ledger = with_active l (changed l.active h (λ x. having_made x c)) } → view new ≡ having_made u c → FollowsStep l c b (Ok a) b' (with_record t i new) s v
    took b' a e is = keeps_moved f c b b' (Ok a) l.clock (changed l.active h (λ x. having_made x c)) (with_record t i new) e f.clock refl (moved is)

    -- the record refused the call
    pub stayed : (effect : Transaction → Effect) (x : Fault) → step l c b ≡ checked l b (by_handle l b h c) effect → Err x ≡ take_answer keys (length b) u c → new ≡ get_or t.records i d → FollowsStep l c b (Err x) b (with_record t i new) s v
    stayed effect x told e is = rw (kept_record t i d new is) (keeps_refused f c b x (told ∙ fails effect x e))

    -- a call that leaves its transaction as it was: the ledger still fits, and the record is still the transaction's
    module _ (idle : (x : Transaction) → having_made x c ≡ x) (is : view new ≡ u) where
      same_active : (ts : List Transaction) → changed ts h (λ x. having_made x c) ≡ ts
      same_active [] = refl
      same_active (x ∷ ts) = rw (cond_both (eqb x.start h) (having_made x c) x (λ y. y ≡ x) (λ _. idle x) (λ _. refl), same_active ts)

      pub still_fits : Fits l (with_record t i new) s v
      still_fits = record {
        reached = f.reached;
        ticks = f.ticks;
        limits = f.limits;
        clock = f.clock;
        active = subst (λ ts. IsShuffle ts (active_of (with_record t i new).records)) (same_active l.active) (moved (is ∙ sym (idle u)));
        holds = f.holds;
      }

      -- as it is read, whatever is given for a place that is not there
      module _ (d' : Record) where
        pub reads_new : slice_get (set t.records i new) i ≡ Some new
        reads_new = slice_get-set t.records i new here.at here.reads

        pub same_record : get_or (set t.records i new) i d' ≡ new
        same_record = get_or_from_slice_get (set t.records i new) i new d' reads_new

        abbrev pub still_here : IsHere (with_record t i new).records h i
        still_here = record {
          at = get_or (set t.records i new) i d';
          reads = reads_new ∙ ap Some (sym same_record);
          is_taken = ap (λ r. taken r.state) same_record ∙ is_taken;
          has = ap (λ r. r.start) same_record ∙ ap (λ x. x.start) is ∙ here.has;
        }

        pub still_kind : (view still_here.at).kind ≡ u.kind
        still_kind = ap (λ r. (view r).kind) same_record ∙ ap (λ x. x.kind) is

  module _ (h i : ℕ) (d new : Record) (there : Some i ≡ position (has_handle h) t.records) (kept : new.state ≡ (get_or t.records i d).state) (keys : ℕ) (of-store : keys ≡ s.keys) where
    pub write_steps : (k x : ℕ) (b : List ℕ) (n : Next) → Ok n ≡ take_answer keys (length b) (view (here h i d new there kept keys of-store (Write h k x) b).at) (Write h k x) → view new ≡ having_made (view (here h i d new there kept keys of-store (Write h k x) b).at) (Write h k x) → FollowsStep l (Write h k x) b (Ok Wrote) b (with_record t i new) s v
    write_steps k x b n e is = took h i d new there kept keys of-store (Write h k x) b b Wrote (passes h i d new there kept keys of-store (Write h k x) b (λ _. write_effect l b h k x) n e) is

    pub read_steps : (k n : ℕ) (b b' : List ℕ) (m : Next) → Ok m ≡ take_answer keys (length b) (view (here h i d new there kept keys of-store (Read h k n) b).at) (Read h k n) → view new ≡ joined (view (here h i d new there kept keys of-store (Read h k n) b).at) k n → b' ≡ map (read_value s (view new)) (range_with_len k n) ++ drop n b → FollowsStep l (Read h k n) b (Ok (ReadDone n)) b' (with_record t i new) s v
    read_steps k n b b' m e is filled =
        let c = Read h k n in
        let at = here h i d new there kept keys of-store c b in
        let u = view at.at in
        let each : AllByRecursion (λ j. read_value s (view new) j ≡ seen l u j) (range_with_len k n) = All-weaker (λ j. j < s.keys) _ (λ j lt. ap (λ x. read_value s x j) is ∙ read_value_joined s u k n j ∙ read_value_seen f h u (found_here f h i at) j lt) (range_with_len k n) (keys_below k n s.keys (subst (λ z. k + n ≤ z) of-store (admitted_read keys (length b) u h k n m e))) in
        subst (λ x. FollowsStep l c b (Ok (ReadDone n)) x (with_record t i new) s v) (sym (filled ∙ ap (λ xs. xs ++ drop n b) (map_all _ (seen l u) (range_with_len k n) each)))
        (took h i d new there kept keys of-store c b _ (ReadDone n) (passes h i d new there kept keys of-store c b (read_effect l b h k n) m e) is)

  -- Abort

  pub abort_steps : (h i : ℕ) (at : IsHere t.records h i) (b : List ℕ) (r : Record) → taken r.state ≡ false → FollowsStep l (Abort h) b (Ok Aborted) b (with_record t i r) s v
  abort_steps h i at b r off = keeps_moved f (Abort h) b b (Ok Aborted) l.clock (without l.active h) (with_record t i r)
      (ap (λ o. checked l b (maker l.limits.keys (length b) h (Abort h) o) (λ _. abort_effect l b h)) (found_here f h i at)) f.clock refl (freed_active f h i at r off)
