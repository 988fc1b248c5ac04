-- A commit is restarted exactly where the history says.
use Rattle.std.proofs.Math.Bool.{or_assoc, or-false}
use Rattle.std.proofs.Math.Nat.{zero-max}
use Rattle.std.proofs.Common.{◌≡◌, ℕ, ◌+◌, ◌<◌, max, Bool, true, false, cond, not, ◌&&◌, ◌||◌, eqb, ltb, List, [], ◌∷◌, ◌++◌, map, length, Some, None, Option, sym, refl, ap, ◌∙◌, subst, ⊎_elim, arith}
use mathlib.Core.Path.{fun_ext}
use Rattle.std.specs.Option.{option_map, option_or}
use Rattle.std.proofs.lemmas.List.Folds.{find-append}
use Rattle.std.specs.List.{AllByRecursion, find, list_any, range_with_len}
use Rattle.std.specs.Result.{is_ok}
use Rattle.std.proofs.lemmas.List.{append-nil, append_assoc}
use Rattle.std.proofs.lemmas.Bool.{eqb-true, eq-eqb, ne_eqb, lt-ltb, le-ltb, cases_eq, not-true}
use Rattle.ledger.specs.declared.Kind.{Kind}
use Rattle.ledger.specs.declared.Kind.TheVariants.{Reader, Updater}
use Rattle.ledger.specs.declared.Write.{Write}
use Rattle.ledger.specs.declared.Call.{Call}
use Rattle.ledger.specs.declared.Range.{Range}
use Rattle.ledger.specs.Ledger.{Limits, Transaction, Version, Ledger, found, is_reader, written}
use Rattle.ledger.specs.Calls.{step, maker, commit_effect, having_made, opened, fresh, joins, joined, same_range, with_range, reclaimed, read_keys, granule_stamp, stale_read_among, stamped, installed}
use Rattle.ledger.specs.Orderly.{IsOrderly}
use Rattle.ledger.specs.History.{Made, Deed, begins, commits, ends, rests, after, IsTold, Operation, read_range, write_key, operation_in, operations, is_begin_of, is_updater_begin, updater_in}
use Rattle.ledger.specs.Restarts.{keys_read, writes_into, tick_into, commit_into, overwrites, is_overwritten, first_overwritten, restart_of}
use Rattle.ledger.specs.Laws.{RestartLaw}
use Rattle.ledger.proofs.Actives.{KeepsIdentity, call_keeps, joined_writes, found_start, found_without, found_changed, never, some_same}
use Rattle.ledger.proofs.Presence.{stale_read_at, granule_same}
use Rattle.ledger.proofs.Deaths.{bare_reclaimed}
use Rattle.ledger.proofs.Orders.{order, order_reclaimed, reached, told_older, course_told}
use Rattle.ledger.proofs.Steps.{checked, as_is, after_reclaim, Makes, resting, beginning, reading, setting, committing, ending, Course, course, step_keeps, course_of}
use Rattle.ledger.proofs.Verdicts.{granule_le, restart_is}
use Rattle.ledger.proofs.Serials.{found_known, any_covers, joins_not, read_keys_push}
use Rattle.ledger.proofs.Histories.{push_cond}

-- The first key that passes a test

find_none : (p : ℕ → Bool) (xs : List ℕ) → AllByRecursion (λ k. p k ≡ false) xs → find p xs ≡ None
find_none p [] a = refl
find_none p (x ∷ xs) a = rw a.0 (find_none p xs a.1)

none_found : (p : ℕ → Bool) (xs : List ℕ) → find p xs ≡ None → AllByRecursion (λ k. p k ≡ false) xs
none_found p [] e = tt
none_found p (x ∷ xs) e = go (p x) refl e (none_found p xs)
  where
    go : (b : Bool) → p x ≡ b → cond b (Some x) (find p xs) ≡ None → (find p xs ≡ None → AllByRecursion (λ k. p k ≡ false) xs) → (p x ≡ false) × AllByRecursion (λ k. p k ≡ false) xs
    go true d q later = cc
    go false d q later = (d, later q)

-- a range read again, or of no keys, has nothing first
absorbed : (x y : Option ℕ) → (x ≡ None → y ≡ None) → option_or x y ≡ x
absorbed None y e = e refl
absorbed (Some x) y e = refl

find_with_range : (p : ℕ → Bool) (rs : List Range) (k n : ℕ) → option_or (find p (read_keys rs)) (find p (range_with_len k n)) ≡ find p (read_keys (with_range rs k n))
find_with_range p rs k n = go (list_any (same_range k n) rs) refl
  where
    go : (b : Bool) → list_any (same_range k n) rs ≡ b → option_or (find p (read_keys rs)) (find p (range_with_len k n)) ≡ find p (read_keys (cond b rs (rs ++ (record { first = k; count = n } ∷ []))))
    go true e = absorbed (find p (read_keys rs)) (find p (range_with_len k n)) (λ q. find_none p (range_with_len k n) (any_covers (λ j. p j ≡ false) k n rs e (none_found p (read_keys rs) q)))
    go false e = sym (find-append p (read_keys rs) (range_with_len k n)) ∙ ap (λ ks. find p (read_keys rs ++ ks)) (sym (append-nil (range_with_len k n))) ∙ ap (find p) (sym (read_keys_push rs (record { first = k; count = n })))

find_joined : (p : ℕ → Bool) (u : Transaction) (k n : ℕ) → is_reader u.kind ≡ false → option_or (find p (read_keys u.reads)) (find p (range_with_len k n)) ≡ find p (read_keys (joined u k n).reads)
find_joined p u k n upd = go (joins u n) refl
  where
    go : (j : Bool) → joins u n ≡ j → option_or (find p (read_keys u.reads)) (find p (range_with_len k n)) ≡ find p (read_keys (cond j (record { start = u.start; kind = u.kind; reads = with_range u.reads k n; writes = u.writes }) u).reads)
    go true e = find_with_range p u.reads k n
    go false e = absorbed (find p (read_keys u.reads)) (find p (range_with_len k n)) (λ q. subst (λ m. find p (range_with_len k m) ≡ None) (sym (joins_not u n upd e)) refl)

-- What operations read and write

keys_read_append : (xs ys : List Operation) → keys_read (xs ++ ys) ≡ keys_read xs ++ keys_read ys
keys_read_append [] ys = refl
keys_read_append (read_range k n how ∷ xs) ys = ap (λ ks. range_with_len k n ++ ks) (keys_read_append xs ys) ∙ sym (append_assoc (range_with_len k n) (keys_read xs) (keys_read ys))
keys_read_append (write_key k x ∷ xs) ys = keys_read_append xs ys

writes_append : (g : ℕ → ℕ) (k : ℕ) (xs ys : List Operation) → writes_into g k (xs ++ ys) ≡ (writes_into g k xs || writes_into g k ys)
writes_append g k [] ys = refl
writes_append g k (read_range j n how ∷ xs) ys = writes_append g k xs ys
writes_append g k (write_key j x ∷ xs) ys = ap (λ b. eqb (g j) (g k) || b) (writes_append g k xs ys) ∙ sym (or_assoc (eqb (g j) (g k)) (writes_into g k xs) (writes_into g k ys))

-- a write list writes into the granule of the key k
abbrev pub list_writes_into : (ℕ → ℕ) → ℕ → List Write → Bool
list_writes_into g k ws = list_any (λ w. eqb (g w.key) (g k)) ws

or_idem : (a b : Bool) → (a || b) ≡ ((a || b) || a)
or_idem true b = refl
or_idem false true = refl
or_idem false false = refl

writes_written : (g : ℕ → ℕ) (k : ℕ) (ws : List Write) (j x : ℕ) → (list_writes_into g k ws || eqb (g j) (g k)) ≡ list_writes_into g k (written ws j x)
writes_written g k [] j x = sym (or-false (eqb (g j) (g k)))
writes_written g k (w ∷ ws) j x = go (eqb w.key j) refl (writes_written g k ws j x)
  where
    go : (b : Bool) → eqb w.key j ≡ b → (list_writes_into g k ws || eqb (g j) (g k)) ≡ list_writes_into g k (written ws j x) → ((eqb (g w.key) (g k) || list_writes_into g k ws) || eqb (g j) (g k)) ≡ list_writes_into g k (cond b (record { key = j; value = x } ∷ ws) (w ∷ written ws j x))
    go true d ih =
        let e = eqb-true w.key j d in
        ap (λ a. (eqb (g a) (g k) || list_writes_into g k ws) || eqb (g j) (g k)) e ∙ sym (or_idem (eqb (g j) (g k)) (list_writes_into g k ws))
    go false d ih = or_assoc (eqb (g w.key) (g k)) (list_writes_into g k ws) (eqb (g j) (g k)) ∙ ap (λ b. eqb (g w.key) (g k) || b) ih

-- the stamps that a commit leaves
pub granule_stamped : (g : ℕ → ℕ) (k c : ℕ) (ws : List Write) (vs : List Version) → granule_stamp g k (stamped c ws ++ vs) ≡ max (cond (list_writes_into g k ws) c 0) (granule_stamp g k vs)
granule_stamped g k c [] vs = omega arith
granule_stamped g k c (w ∷ ws) vs = go (eqb (g w.key) (g k)) (list_writes_into g k ws) (granule_stamped g k c ws vs)
  where
    go : (a b : Bool) → granule_stamp g k (stamped c ws ++ vs) ≡ max (cond b c 0) (granule_stamp g k vs) → cond a (max c (granule_stamp g k (stamped c ws ++ vs))) (granule_stamp g k (stamped c ws ++ vs)) ≡ max (cond (a || b) c 0) (granule_stamp g k vs)
    go true true ih = omega arith
    go true false ih = omega arith
    go false b ih = ih

-- What a history says of restarts, apart from the history

pub record Chronicle : Type 0 where
  pub operations : ℕ → List Operation
  pub updater : ℕ → Bool
  pub commit_into : (ℕ → ℕ) → ℕ → ℕ
  pub overwritten : (ℕ → ℕ) → ℕ → ℕ → Bool

abbrev chronicle_with : Chronicle → Deed → Chronicle
chronicle_with c d = record {
  operations = λ h. c.operations h ++ operation_in h d;
  updater = λ h. is_updater_begin h d || c.updater h;
  commit_into = λ g k. max (tick_into g k c.operations d) (c.commit_into g k);
  overwritten = λ g k h. not (is_begin_of h d) && (overwrites g k c.operations d || c.overwritten g k h);
}

abbrev chronicle : List Made → Chronicle
chronicle ms = record { operations = λ h. operations h ms; updater = λ h. updater_in h ms; commit_into = λ g k. commit_into g k ms; overwritten = λ g k h. is_overwritten g k h ms }

-- with other operations
abbrev operating : Chronicle → (ℕ → List Operation) → Chronicle
operating c of = record { operations = of; updater = c.updater; commit_into = c.commit_into; overwritten = c.overwritten }

-- a deed that begins nothing and commits nothing adds its operation alone
only_operates : (c : Chronicle) (of : ℕ → List Operation) (d : Deed) → ((h : ℕ) → of h ≡ c.operations h ++ operation_in h d)
    → (λ (g : ℕ → ℕ) (k : ℕ). max 0 (c.commit_into g k)) ≡ (chronicle_with c d).commit_into → c.updater ≡ (chronicle_with c d).updater → c.overwritten ≡ (chronicle_with c d).overwritten → operating c of ≡ chronicle_with c d
only_operates c of d a e u o =
    let mk : (ℕ → List Operation) → (ℕ → Bool) → ((ℕ → ℕ) → ℕ → ℕ) → ((ℕ → ℕ) → ℕ → ℕ → Bool) → Chronicle = λ p q r s. record { operations = p; updater = q; commit_into = r; overwritten = s } in
    let zero : c.commit_into ≡ (λ g k. max 0 (c.commit_into g k)) = fun_ext (λ g. fun_ext (λ k. sym (zero-max (c.commit_into g k)))) in
    ap (λ p. mk p c.updater c.commit_into c.overwritten) (fun_ext a)
    ∙ ap (λ q. mk (chronicle_with c d).operations q c.commit_into c.overwritten) u
    ∙ ap (λ r. mk (chronicle_with c d).operations (chronicle_with c d).updater r c.overwritten) (zero ∙ e)
    ∙ ap (λ s. mk (chronicle_with c d).operations (chronicle_with c d).updater (chronicle_with c d).commit_into s) o

-- what it says of an active transaction
pub record IsKnown (c : Chronicle) (h : ℕ) (t : Transaction) : Type 0 where
  pub kind : c.updater h ≡ not (is_reader t.kind)
  pub reads : is_reader t.kind ≡ false → (p : ℕ → Bool) → find p (keys_read (c.operations h)) ≡ find p (read_keys t.reads)
  pub writes : (g : ℕ → ℕ) (k : ℕ) → writes_into g k (c.operations h) ≡ list_writes_into g k t.writes
  pub since : (g : ℕ → ℕ) (k : ℕ) → c.overwritten g k h ≡ ltb h (c.commit_into g k)

pub record Tells (c : Chronicle) (l : Ledger) : Type 0 where
  pub stamps : (g : ℕ → ℕ) (k : ℕ) → granule_stamp g k l.versions ≡ c.commit_into g k
  pub silent : (h : ℕ) → l.clock < h → (c.operations h ≡ []) × (c.updater h ≡ false)
  pub active : (h : ℕ) (t : Transaction) → found l.active h ≡ Some t → IsKnown c h t

tells_less : (c : Chronicle) (l m : Ledger) → l.clock ≡ m.clock → ((g : ℕ → ℕ) (k : ℕ) → granule_stamp g k m.versions ≡ granule_stamp g k l.versions) → ((h : ℕ) (t : Transaction) → found m.active h ≡ Some t → found l.active h ≡ Some t) → Tells c l → Tells c m
tells_less c l m clock grans less s = record {
  stamps = λ g k. grans g k ∙ s.stamps g k;
  silent = λ h lt. s.silent h (omega (arith, clock));
  active = λ h t f. s.active h t (less h t f);
}

-- one more operation of the transaction g, which the change fn notes in its lists
module _ (c : Chronicle) (l : Ledger) (s : Tells c l) (order : IsOrderly l) (g : ℕ) (u : Transaction) (f : found l.active g ≡ Some u) (o : Operation) (fn : Transaction → Transaction) (keeps : KeepsIdentity fn) where
  abbrev operated : Chronicle
  operated = operating c (λ h. cond (eqb g h) (c.operations h ++ (o ∷ [])) (c.operations h))

  mine : operated.operations g ≡ c.operations g ++ (o ∷ [])
  mine = rw (eq-eqb g g refl)

  other : (h : ℕ) → (h ≡ g → ⊥) → operated.operations h ≡ c.operations h
  other h ne = rw (ne_eqb g h (λ e. ne (sym e)))

  known_other : (h : ℕ) (t : Transaction) → (h ≡ g → ⊥) → IsKnown c h t → IsKnown operated h t
  known_other h t ne w = record {
    kind = w.kind;
    reads = λ r p. ap (λ xs. find p (keys_read xs)) (other h ne) ∙ w.reads r p;
    writes = λ γ k. ap (writes_into γ k) (other h ne) ∙ w.writes γ k;
    since = w.since;
  }

  tells_operated :
      (is_reader u.kind ≡ false → (p : ℕ → Bool) → find p (keys_read (c.operations g ++ (o ∷ []))) ≡ find p (read_keys (fn u).reads))
      → ((γ : ℕ → ℕ) (k : ℕ) → writes_into γ k (c.operations g ++ (o ∷ [])) ≡ list_writes_into γ k (fn u).writes)
      → Tells operated (record { limits = l.limits; clock = l.clock; active = map (λ (x : Transaction). cond (eqb x.start g) (fn x) x) l.active; versions = l.versions; trimmed_at = l.trimmed_at })
  tells_operated by_reads by_writes = record {
    stamps = s.stamps;
    silent = λ h lt. let q = s.silent h lt in (other h (λ e. omega (arith, found_known l order.sound g u f)) ∙ q.0, q.1);
    active = λ h t q. ⊎_elim
        (λ me.
        let same : me.1.0 ≡ u = some_same me.1.0 u (found l.active g) (subst (λ x. found l.active x ≡ Some me.1.0) me.0 me.1.1) f in
        let w = s.active g u f in
        let new : IsKnown operated g (fn u) = record {
          kind = w.kind ∙ ap (λ x. not (is_reader x)) (sym (keeps.kind u));
          reads = λ r p. ap (λ xs. find p (keys_read xs)) mine ∙ by_reads (ap is_reader (sym (keeps.kind u)) ∙ r) p;
          writes = λ γ k. ap (writes_into γ k) mine ∙ by_writes γ k;
          since = w.since;
        } in
        subst (λ x. IsKnown operated x t) (sym me.0) (subst (IsKnown operated g) (sym (me.1.2 ∙ ap fn same)) new))
        (λ rest. known_other h t rest.0 (s.active h t rest.1))
        (found_changed l.active g fn keeps h t q);
  }

-- a transaction begins
module _ (c : Chronicle) (l : Ledger) (s : Tells c l) (order : IsOrderly l) (kind : Kind) where
  abbrev begun : Chronicle
  begun = chronicle_with c (begins kind (l.clock + 1))

  starts : (k : Kind) → is_updater_begin (l.clock + 1) (begins k (l.clock + 1)) ≡ not (is_reader k)
  starts Reader = refl
  starts Updater = eq-eqb (l.clock + 1) (l.clock + 1) refl

  starts_other : (k : Kind) (h : ℕ) → (l.clock + 1 ≡ h → ⊥) → is_updater_begin h (begins k (l.clock + 1)) ≡ false
  starts_other Reader h ne = refl
  starts_other Updater h ne = ne_eqb (l.clock + 1) h ne

  known_new : IsKnown begun (l.clock + 1) (fresh (l.clock + 1) kind)
  known_new =
      let q = s.silent (l.clock + 1) (omega arith) in
      let none : begun.operations (l.clock + 1) ≡ [] = append-nil (c.operations (l.clock + 1)) ∙ q.0 in
      record {
        kind = ap (λ x. x || c.updater (l.clock + 1)) (starts kind) ∙ ap (λ x. not (is_reader kind) || x) q.1 ∙ or-false (not (is_reader kind));
        reads = λ r f. ap (λ xs. find f (keys_read xs)) none;
        writes = λ γ k. ap (writes_into γ k) none;
        since = λ γ k.
            let le = granule_le γ k l.clock l.versions order.dated.stamps in
            ap (λ x. not x && (false || c.overwritten γ k (l.clock + 1))) (eq-eqb (l.clock + 1) (l.clock + 1) refl) ∙ sym (le-ltb (l.clock + 1) (max 0 (c.commit_into γ k)) (omega (arith, s.stamps γ k)));
      }

  known_old : (h : ℕ) (t : Transaction) → (l.clock + 1 ≡ h → ⊥) → IsKnown c h t → IsKnown begun h t
  known_old h t ne w = record {
    kind = ap (λ x. x || c.updater h) (starts_other kind h ne) ∙ w.kind;
    reads = λ r f. ap (λ xs. find f (keys_read xs)) (append-nil (c.operations h)) ∙ w.reads r f;
    writes = λ γ k. ap (writes_into γ k) (append-nil (c.operations h)) ∙ w.writes γ k;
    since = λ γ k. ap (λ x. not x && (false || c.overwritten γ k h)) (ne_eqb (l.clock + 1) h ne) ∙ w.since γ k ∙ ap (ltb h) (sym (zero-max (c.commit_into γ k)));
  }

  tells_begun : Tells begun (opened l kind)
  tells_begun = record {
    stamps = λ γ k. s.stamps γ k ∙ sym (zero-max (c.commit_into γ k));
    silent = λ h lt. let q = s.silent h (omega arith) in (append-nil (c.operations h) ∙ q.0, ap (λ x. x || c.updater h) (starts_other kind h (λ e. omega arith)) ∙ q.1);
    active = λ h t f. ⊎_elim
        (λ is'.
        let e : fresh (l.clock + 1) kind ≡ t = some_same (fresh (l.clock + 1) kind) t (Some (fresh (l.clock + 1) kind)) refl (rw (eq-eqb (l.clock + 1) h is') at f) in
        subst (λ x. IsKnown begun x t) is' (subst (IsKnown begun (l.clock + 1)) e known_new))
        (λ ne. known_old h t ne (s.active h t (rw (ne_eqb (l.clock + 1) h ne) at f)))
        (cases_eq (l.clock + 1) h);
  }

-- an updater is committed
module _ (c : Chronicle) (l : Ledger) (s : Tells c l) (order : IsOrderly l) (g : ℕ) (u : Transaction) (f : found l.active g ≡ Some u) where
  either : (h x : ℕ) (z y : Bool) → h < l.clock + 1 → y ≡ ltb h x → (z || y) ≡ ltb h (max (cond z (l.clock + 1) 0) x)
  either h x true y lt e = sym (lt-ltb h (max (l.clock + 1) x) (omega arith))
  either h x false y lt e = e ∙ ap (ltb h) (sym (zero-max x))

  tells_committed : Tells (chronicle_with c (commits g (l.clock + 1))) (installed l u)
  tells_committed = record {
    stamps = λ γ k.
        granule_stamped γ k (l.clock + 1) u.writes l.versions
        ∙ ap (λ z. max (cond z (l.clock + 1) 0) (granule_stamp γ k l.versions)) (sym ((s.active g u f).writes γ k))
        ∙ ap (max (cond (writes_into γ k (c.operations g)) (l.clock + 1) 0)) (s.stamps γ k);
    silent = λ h lt. let q = s.silent h (omega arith) in (append-nil (c.operations h) ∙ q.0, q.1);
    active = λ h t q.
        let q' = (found_without l.active u.start h t q).0 in
        let w = s.active h t q' in
        record {
          kind = w.kind;
          reads = λ r p. ap (λ xs. find p (keys_read xs)) (append-nil (c.operations h)) ∙ w.reads r p;
          writes = λ γ k. ap (writes_into γ k) (append-nil (c.operations h)) ∙ w.writes γ k;
          since = λ γ k. either h (c.commit_into γ k) (writes_into γ k (c.operations g)) (c.overwritten γ k h) (omega (arith, found_known l order.sound h t q')) (w.since γ k);
        };
  }

tells_made : (c : Chronicle) (l m : Ledger) (d : Deed) → IsOrderly l → Tells c l → Makes l d m → Tells (chronicle_with c d) m
tells_made c l m d order s resting = subst (λ x. Tells x l) (only_operates c c.operations rests (λ h. sym (append-nil (c.operations h))) refl refl refl) s
tells_made c l m d order s (beginning {kind = kind} few more) = tells_begun c l s order kind
tells_made c l m d order s (reading {h = g} {k = k} {n = n} how u f inside room) =
    let w = s.active g u f in
    subst (λ x. Tells x m) (only_operates c (λ h. cond (eqb g h) (c.operations h ++ (read_range k n how ∷ [])) (c.operations h)) d (λ h. sym (push_cond (eqb g h) (c.operations h) (read_range k n how))) refl refl refl)
    (tells_operated c l s order g u f (read_range k n how) (λ t. having_made t (Call.Read g k n)) (call_keeps (Call.Read g k n))
    (λ r p. ap (find p) (keys_read_append (c.operations g) (read_range k n how ∷ []) ∙ ap (λ ks. keys_read (c.operations g) ++ ks) (append-nil (range_with_len k n))) ∙ find-append p (keys_read (c.operations g)) (range_with_len k n) ∙ ap (λ x. option_or x (find p (range_with_len k n))) (w.reads r p) ∙ find_joined p u k n r)
    (λ γ j. writes_append γ j (c.operations g) (read_range k n how ∷ []) ∙ or-false (writes_into γ j (c.operations g)) ∙ w.writes γ j ∙ ap (list_writes_into γ j) (sym (joined_writes u k n))))
tells_made c l m d order s (setting {h = g} {k = k} {x = x} u f upd inside room) =
    let w = s.active g u f in
    subst (λ x. Tells x m) (only_operates c (λ h. cond (eqb g h) (c.operations h ++ (write_key k x ∷ [])) (c.operations h)) d (λ h. sym (push_cond (eqb g h) (c.operations h) (write_key k x))) refl refl refl)
    (tells_operated c l s order g u f (write_key k x) (λ t. having_made t (Call.Write g k x)) (call_keeps (Call.Write g k x))
    (λ r p. ap (find p) (keys_read_append (c.operations g) (write_key k x ∷ []) ∙ append-nil (keys_read (c.operations g))) ∙ w.reads r p)
    (λ γ j. writes_append γ j (c.operations g) (write_key k x ∷ []) ∙ ap (λ z. writes_into γ j (c.operations g) || z) (or-false (eqb (γ k) (γ j))) ∙ ap (λ z. z || eqb (γ k) (γ j)) (w.writes γ j) ∙ writes_written γ j u.writes k x))
tells_made c l m d order s (committing {h = h} t f upd none_stale more room) = tells_committed c l s order h t f
tells_made c l m d order s (ending {h = h} t f) =
    subst (λ x. Tells x m) (only_operates c c.operations (ends h) (λ g. sym (append-nil (c.operations g))) refl refl refl)
    (tells_less c l m refl (λ g k. refl) (λ g u q. (found_without l.active h g u q).0) s)

granule_reclaimed : (l : Ledger) (g : ℕ → ℕ) (k : ℕ) → granule_stamp g k (reclaimed l).versions ≡ granule_stamp g k l.versions
granule_reclaimed l g k = granule_same (reclaimed l).versions l.versions (bare_reclaimed l) g k

tells_course : (c : Chronicle) {l m : Ledger} {d : Deed} → IsOrderly l → Tells c l → Course l d m → Tells (chronicle_with c d) m
tells_course c {l = l} {m = m} {d = d} order s (course as_is makes) = tells_made c l m d order s makes
tells_course c {l = l} {m = m} {d = d} order s (course after_reclaim makes) =
    tells_made c (reclaimed l) m d (order_reclaimed l order) (tells_less c l (reclaimed l) refl (granule_reclaimed l) (λ h t e. e) s) makes

pub tells : (n : Limits) (ms : List Made) → IsTold n ms → Tells (chronicle ms) (after n ms)
tells n [] t = record { stamps = λ g k. refl; silent = λ h lt. (refl, refl); active = λ h t f. never t None refl f }
tells n (m ∷ ms) t = tells_course (chronicle ms) (order (reached n ms)) (tells n ms t.2) (course_told n m ms t)

-- The law

-- what the ledger finds stale is what the history says was overwritten
stale_read_said : (n : Limits) (ms : List Made) (h : ℕ) (t : Transaction) → IsTold n ms → found (after n ms).active h ≡ Some t → is_reader t.kind ≡ false → (g : ℕ → ℕ) → stale_read_among g (after n ms).versions t.start (read_keys t.reads) ≡ first_overwritten g ms h (keys_read (operations h ms))
stale_read_said n ms h t told f r g =
    let l = after n ms in
    let s = tells n ms told in
    let o = s.active h t f in
    let newer : ℕ → Bool = λ k. ltb t.start (granule_stamp g k l.versions) in
    let over : ℕ → Bool = λ k. is_overwritten g k h ms in
    let each : (k : ℕ) → newer k ≡ over k = λ k. ap (λ x. ltb x (granule_stamp g k l.versions)) (found_start l.active h t f) ∙ ap (ltb h) (s.stamps g k) ∙ sym (o.since g k) in
    ap (λ (st : ℕ → ℕ). option_map (λ k. stale_read_at k (st k)) (find newer (read_keys t.reads))) (fun_ext (s.stamps g))
    ∙ ap (option_map (λ k. stale_read_at k (commit_into g k ms))) (sym (o.reads r newer) ∙ ap (λ p. find p (keys_read (operations h ms))) (fun_ext each))

pub same_limits : (n : Limits) (ms : List Made) → (after n ms).limits ≡ n
same_limits n [] = refl
same_limits n (m ∷ ms) = limits_after (course_of (after n ms) m.call m.given) ∙ same_limits n ms
  where
    limits_made : (l m : Ledger) (d : Deed) → Makes l d m → m.limits ≡ l.limits
    limits_made l m d resting = refl
    limits_made l m d (beginning few more) = refl
    limits_made l m d (reading how t f inside room) = refl
    limits_made l m d (setting t f upd inside room) = refl
    limits_made l m d (committing t f upd none_stale more room) = refl
    limits_made l m d (ending t f) = refl

    limits_after : {l m : Ledger} {d : Deed} → Course l d m → m.limits ≡ l.limits
    limits_after {l = l} c = step_keeps (λ m. m.limits ≡ l.limits) (λ k e. e) (λ k m d e s. limits_made k m d s ∙ e) refl c

-- a commit that is accepted finds its transaction
found_accepted : (l : Ledger) (b : List ℕ) (h : ℕ) → is_ok (step l (Call.Commit h) b).answer ≡ true → (t : Transaction) × (found l.active h ≡ Some t)
found_accepted l b h e = go (found l.active h) refl e
  where
    go : (o : Option Transaction) → found l.active h ≡ o → is_ok (checked l b (maker l.limits.keys (length b) h (Call.Commit h) o) (commit_effect l b h)).answer ≡ true → (t : Transaction) × (found l.active h ≡ Some t)
    go None f q = cc
    go (Some t) f q = (t, f)

pub restart_law : RestartLaw
restart_law n ms told newer older m h parts call ok upd =
    let l = after n older in
    let told-m = told_older n newer (m ∷ older) (subst (IsTold n) parts told) in
    let answer : m.answer ≡ (step l (Call.Commit h) m.given).answer = told-m.0 ∙ ap (λ c. (step l c m.given).answer) call in
    let x = found_accepted l m.given h (ap is_ok (sym answer) ∙ ok) in
    let t = x.0 in
    let f = x.1 in
    let r : is_reader t.kind ≡ false = not-true (is_reader t.kind) (sym ((tells n older told-m.2).active h t f).kind ∙ upd) in
    ap restart_of answer ∙ restart_is l m.given h t f r
    ∙ ap (λ k. stale_read_among k.granule l.versions t.start (read_keys t.reads)) (same_limits n older)
    ∙ stale_read_said n older h t told-m.2 f r n.granule
