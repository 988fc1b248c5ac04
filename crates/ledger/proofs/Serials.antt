-- What holds of a story and of the ledger that tells it, call by call.
use Rattle.std.proofs.Common.{◌≡◌, ℕ, suc, ◌+◌, ◌<◌, ◌≤◌, Bool, true, false, cond, eqb, ltb, ◌⊎◌, List, [], ◌∷◌, ◌++◌, map, Some, None, Option, unwrap_or, sym, refl, ap, ◌∙◌, subst, ⊎_elim, arith}
use Rattle.std.specs.List.{AllByRecursion, list_any, range_with_len}
use Rattle.std.proofs.lemmas.List.{append_assoc}
use Rattle.std.proofs.ByRecursion.{All-append, All-weaker}
use Rattle.std.proofs.lemmas.Bool.{ltb-false, eqb-true, eq-eqb, ne_eqb, cond_both, cases_lt, cases_eq, and_parts, or_cases}
use Rattle.ledger.specs.declared.Kind.{Kind}
use Rattle.ledger.specs.declared.Call.{Call}
use Rattle.ledger.specs.declared.Range.{Range}
use Rattle.ledger.specs.Ledger.{Transaction, Ledger, found, is_reader, value_below, newest_value, own_write}
use Rattle.ledger.specs.Calls.{seen, granule_stamp, stale_read, read_keys, stamped, with_active, with_call, changed, fresh, opened as opening, installed, joins, joined, having_made, same_range, with_range}
use Rattle.ledger.specs.History.{Showing, Sight, sight_of, Operation, read_range, write_key}
use Rattle.ledger.specs.Serial.{Table, run, run_reads}
use Rattle.ledger.specs.Orderly.{IsSound}
use Rattle.ledger.proofs.SoundActives.{well_formed_found}
use Rattle.ledger.proofs.Actives.{KeepsIdentity, call_keeps, joined_writes, found_start, found_without, found_changed, some_same, never}
use Rattle.ledger.proofs.DatedVersions.{all_stamped, all_each}
use Rattle.ledger.proofs.Stories.{Story, operations_at, tab, run_push, run_reads_push, tab_same, value_newest, value_before, value_after, granule_kept, none_stale, own_written}

-- a transaction that stands at tick t + 1
pub record IsStanding (s : Story) (l : Ledger) (t h : ℕ) : Type 0 where
  pub known : h ≤ l.clock
  pub same : run_reads (s.operations h) (tab s t) ≡ s.saw h
  pub alone : (u : Transaction) → found l.active h ≡ Some u → (is_reader u.kind ≡ true) × (h ≡ suc t)

-- a key still has the value that was read
abbrev pub IsStill : Ledger → ℕ → Table → ℕ → Type 0
IsStill l h v k = (v k ≡ newest_value k l.versions) × (granule_stamp l.limits.granule k l.versions ≤ h)

pub record IsOpen (s : Story) (l : Ledger) (h : ℕ) (t : Transaction) : Type 0 where
  pub own : (v : Table) (k : ℕ) → run (s.operations h) v k ≡ unwrap_or (own_write k t.writes) (v k)
  pub saw : is_reader t.kind ≡ false → (v : Table) → AllByRecursion (IsStill l h v) (read_keys t.reads) → run_reads (s.operations h) v ≡ s.saw h
  pub none : is_reader t.kind ≡ true → t.writes ≡ []

pub record TellsStory (s : Story) (l : Ledger) : Type 0 where
  pub fine : IsSound l
  pub stamps : AllByRecursion (λ v. v.stamp ≤ l.clock) l.versions
  pub first : s.stands 0 ≡ None
  pub later : (t : ℕ) → l.clock < t → s.stands t ≡ None
  pub silent : (h : ℕ) → l.clock < h → (s.operations h ≡ []) × (s.saw h ≡ [])
  pub placed : (t h : ℕ) → s.stands (suc t) ≡ Some h → IsStanding s l t h
  pub value : (t k : ℕ) → t ≤ l.clock → value_below k (suc t) l.versions ≡ tab s t k
  pub opened : (h : ℕ) (t : Transaction) → found l.active h ≡ Some t → IsOpen s l h t

pub found_known : (l : Ledger) → IsSound l → (h : ℕ) (t : Transaction) → found l.active h ≡ Some t → h ≤ l.clock
found_known l s h t e = let p = well_formed_found s h t e in omega (arith, p.0.drawn, p.1)

-- a tick at which someone stands is not past the clock
stands_by : (s : Story) (l : Ledger) → TellsStory s l → (t h : ℕ) → s.stands t ≡ Some h → t ≤ l.clock
stands_by s l i t h e = ⊎_elim (λ lt. let z : ◌≡◌ {A = ℕ} 0 1 = let q = i.later t lt in cc in absurd (omega arith)) (λ le. le) (cases_lt l.clock t)

pub map_all : {X Y : Type 0} (f g : X → Y) (xs : List X) → AllByRecursion (λ x. f x ≡ g x) xs → map f xs ≡ map g xs
map_all f g [] a = refl
map_all f g (x ∷ xs) a = rw (a.0, map_all f g xs a.1)

all_left : {X : Type 0} (P : X → Type 0) (xs ys : List X) → AllByRecursion P (xs ++ ys) → AllByRecursion P xs
all_left P [] ys a = tt
all_left P (x ∷ xs) ys a = (a.0, all_left P xs ys a.1)

all_right : {X : Type 0} (P : X → Type 0) (xs ys : List X) → AllByRecursion P (xs ++ ys) → AllByRecursion P ys
all_right P [] ys a = a
all_right P (x ∷ xs) ys a = all_right P xs ys a.1

-- fewer active, the same clock, and versions that look the same
pub inv_less : (s : Story) (l m : Ledger) → TellsStory s l → IsSound m → l.clock ≡ m.clock → l.limits ≡ m.limits → ((h : ℕ) (t : Transaction) → found m.active h ≡ Some t → found l.active h ≡ Some t) → AllByRecursion (λ v. v.stamp ≤ m.clock) m.versions → ((k t : ℕ) → value_below k t l.versions ≡ value_below k t m.versions) → ((k : ℕ) → newest_value k l.versions ≡ newest_value k m.versions) → ((k : ℕ) → granule_stamp m.limits.granule k l.versions ≡ granule_stamp m.limits.granule k m.versions) → TellsStory s m
inv_less s l m i fine clock limits less stamps values news grans = record {
  fine = fine;
  stamps = stamps;
  first = i.first;
  later = λ t lt. i.later t (omega (arith, clock));
  silent = λ h lt. i.silent h (omega (arith, clock));
  placed = λ t h e. let p = i.placed t h e in record { known = omega (arith, p.known, clock); same = p.same; alone = λ u f. p.alone u (less h u f) };
  value = λ t k le. sym (values k (suc t)) ∙ i.value t k (omega (arith, clock));
  opened = λ h t f. let o = i.opened h t (less h t f) in record {
    own = o.own;
    saw = λ r v a. o.saw r v (All-weaker (IsStill m h v) (IsStill l h v) (λ k q. (q.0 ∙ sym (news k), subst (λ x. granule_stamp x.granule k l.versions ≤ h) (sym limits) (subst (λ x. x ≤ h) (sym (grans k)) q.1))) (read_keys t.reads) a);
    none = o.none;
  };
}

-- a story in which only who stands where is changed
abbrev pub placing : Story → (ℕ → Option ℕ) → Story
placing s st = record { operations = s.operations; saw = s.saw; stands = st }

tab_before : (s : Story) (st : ℕ → Option ℕ) (c t : ℕ) → ((n : ℕ) → n ≤ c → st n ≡ s.stands n) → t ≤ c → tab (placing s st) t ≡ tab s t
tab_before s st c t e le = tab_same (placing s st) s t (λ n v lt. ap (λ o. run (operations_at s o) v) (e (suc n) (omega arith)))

module _ (s : Story) (l : Ledger) (i : TellsStory s l) (k : Kind) (st : ℕ → Option ℕ)
    (before : (t : ℕ) → t ≤ l.clock → st t ≡ s.stands t)
    (past : (t : ℕ) → l.clock + 1 < t → st t ≡ None)
    (here : (st (suc l.clock) ≡ None) ⊎ ((st (suc l.clock) ≡ Some (l.clock + 1)) × (is_reader k ≡ true))) where
  begin_tab : tab (placing s st) (suc l.clock) ≡ tab s l.clock
  begin_tab =
      let quiet : operations_at s (st (suc l.clock)) ≡ [] = ⊎_elim (λ e. ap (operations_at s) e) (λ e. ap (operations_at s) e.0 ∙ (i.silent (l.clock + 1) (omega arith)).0) here in
      ap (λ ac. run ac (tab (placing s st) l.clock)) quiet ∙ tab_before s st l.clock l.clock before (omega arith)

  begin_value : (t j : ℕ) → t ≤ l.clock + 1 → value_below j (suc t) l.versions ≡ tab (placing s st) t j
  begin_value t j le = ⊎_elim
      (λ lt. let e : t ≡ suc l.clock = omega arith in
      subst (λ x. value_below j (suc x) l.versions ≡ tab (placing s st) x j) (sym e)
      (value_newest j l.clock (suc (suc l.clock)) l.versions i.stamps (omega arith) ∙ sym (value_newest j l.clock (suc l.clock) l.versions i.stamps (omega arith)) ∙ i.value l.clock j (omega arith) ∙ ap (λ v. v j) (sym begin_tab)))
      (λ ge. i.value t j ge ∙ ap (λ v. v j) (sym (tab_before s st l.clock t before ge)))
      (cases_lt l.clock t)

  found_old : (h : ℕ) (t : Transaction) → (l.clock + 1 ≡ h → ⊥) → found (opening l k).active h ≡ Some t → found l.active h ≡ Some t
  found_old h t ne f = rw (ne_eqb (l.clock + 1) h ne) at f

  found_new : (h : ℕ) (t : Transaction) → l.clock + 1 ≡ h → found (opening l k).active h ≡ Some t → fresh (l.clock + 1) k ≡ t
  found_new h t e f = some_same _ t (Some (fresh (l.clock + 1) k)) refl (rw (eq-eqb (l.clock + 1) h e) at f)

  begin_placed : (t h : ℕ) → st (suc t) ≡ Some h → IsStanding (placing s st) (opening l k) t h
  begin_placed t h e = ⊎_elim
      (λ lt. ⊎_elim
      (λ far. never h (st (suc t)) (past (suc t) far) e)
      (λ near. let at : t ≡ l.clock = omega arith in
      let e' : st (suc l.clock) ≡ Some h = subst (λ x. st (suc x) ≡ Some h) at e in
      ⊎_elim (λ none. never h (st (suc l.clock)) none e')
      (λ new. let is : l.clock + 1 ≡ h = some_same _ h (st (suc l.clock)) new.0 e' in
      let q = i.silent h (omega (arith, is)) in
      record { known = omega arith; same = ap (λ ac. run_reads ac (tab (placing s st) t)) q.0 ∙ sym q.1; alone = λ u f. (ap (λ x. is_reader x.kind) (sym (found_new h u is f)) ∙ new.1, omega arith) })
      here)
      (cases_lt (l.clock + 1) (suc t)))
      (λ ge. let p = i.placed t h (sym (before (suc t) ge) ∙ e) in
      record { known = omega (arith, p.known); same = ap (run_reads (s.operations h)) (tab_before s st l.clock t before (omega arith)) ∙ p.same; alone = λ u f. p.alone u (found_old h u (λ q. omega (arith, p.known)) f) })
      (cases_lt l.clock (suc t))

  begin_opened : (h : ℕ) (t : Transaction) → found (opening l k).active h ≡ Some t → IsOpen (placing s st) (opening l k) h t
  begin_opened h t f = ⊎_elim
      (λ is. let q = i.silent h (omega (arith, is)) in
      subst (λ x. IsOpen (placing s st) (opening l k) h x) (found_new h t is f)
      (record { own = λ v j. ap (λ ac. run ac v j) q.0; saw = λ _ v _. ap (λ ac. run_reads ac v) q.0 ∙ sym q.1; none = λ _. refl }))
      (λ ne. let o = i.opened h t (found_old h t ne f) in record { own = o.own; saw = o.saw; none = o.none })
      (cases_eq (l.clock + 1) h)

  pub inv_begin : IsSound (opening l k) → TellsStory (placing s st) (opening l k)
  inv_begin fine = record {
    fine = fine;
    stamps = All-weaker _ _ (λ v le. omega arith) l.versions i.stamps;
    first = before 0 (omega arith) ∙ i.first;
    later = λ t lt. past t lt;
    silent = λ h lt. i.silent h (omega arith);
    placed = begin_placed;
    value = begin_value;
    opened = begin_opened;
  }

-- the transaction g did a, and saw xs in it
abbrev pub did : Story → ℕ → Operation → List Sight → Story
did s g a xs = record { operations = λ h. cond (eqb g h) (s.operations h ++ (a ∷ [])) (s.operations h); saw = λ h. cond (eqb g h) (s.saw h ++ xs) (s.saw h); stands = s.stands }

module _ (s : Story) (l : Ledger) (i : TellsStory s l) (g : ℕ) (u : Transaction) (f : found l.active g ≡ Some u) (a : Operation) (xs : List Sight) (fn : Transaction → Transaction) (keeps : KeepsIdentity fn) where
  abbrev done : Story
  done = did s g a xs

  abbrev next : Ledger
  next = with_active l (changed l.active g fn)

  acts_mine : done.operations g ≡ s.operations g ++ (a ∷ [])
  acts_mine = rw (eq-eqb g g refl)

  saw_mine : done.saw g ≡ s.saw g ++ xs
  saw_mine = rw (eq-eqb g g refl)

  acts_other : (h : ℕ) → (g ≡ h → ⊥) → done.operations h ≡ s.operations h
  acts_other h ne = rw (ne_eqb g h ne)

  saw_other : (h : ℕ) → (g ≡ h → ⊥) → done.saw h ≡ s.saw h
  saw_other h ne = rw (ne_eqb g h ne)

  did_placed : ((t : ℕ) → tab done t ≡ tab s t) → ((t : ℕ) → s.stands (suc t) ≡ Some g → run_reads (s.operations g ++ (a ∷ [])) (tab s t) ≡ s.saw g ++ xs) → (t h : ℕ) → s.stands (suc t) ≡ Some h → IsStanding done next t h
  did_placed tabs mine t h e =
      let p = i.placed t h e in
      record {
        known = p.known;
        same = ⊎_elim
            (λ is. subst (λ x. run_reads (done.operations x) (tab done t) ≡ done.saw x) is (ap (run_reads (done.operations g)) (tabs t) ∙ ap (λ ac. run_reads ac (tab s t)) acts_mine ∙ mine t (subst (λ x. s.stands (suc t) ≡ Some x) (sym is) e) ∙ sym saw_mine))
            (λ ne. ap (run_reads (done.operations h)) (tabs t) ∙ ap (λ ac. run_reads ac (tab s t)) (acts_other h ne) ∙ p.same ∙ sym (saw_other h ne))
            (cases_eq g h);
        alone = λ x q. ⊎_elim
            (λ me. let r = p.alone me.1.0 me.1.1 in (ap (λ y. is_reader y.kind) me.1.2 ∙ ap is_reader (keeps.kind me.1.0) ∙ r.0, r.1))
            (λ other. p.alone x other.1)
            (found_changed l.active g fn keeps h x q);
      }

  did_opened : IsOpen done next g (fn u) → (h : ℕ) (t : Transaction) → found next.active h ≡ Some t → IsOpen done next h t
  did_opened mine h t q = ⊎_elim
      (λ me.
      let same : me.1.0 ≡ u = some_same me.1.0 u (found l.active g) (subst (λ x. found l.active x ≡ Some me.1.0) me.0 me.1.1) f in
      subst (λ x. IsOpen done next x t) (sym me.0) (subst (IsOpen done next g) (sym (me.1.2 ∙ ap fn same)) mine))
      (λ other. let ne : g ≡ h → ⊥ = λ e. other.0 (sym e) in let o = i.opened h t other.1 in record {
        own = λ v k. ap (λ ac. run ac v k) (acts_other h ne) ∙ o.own v k;
        saw = λ r v al. ap (λ ac. run_reads ac v) (acts_other h ne) ∙ o.saw r v al ∙ sym (saw_other h ne);
        none = o.none;
      })
      (found_changed l.active g fn keeps h t q)

  inv_did : IsSound next → ((t : ℕ) → tab done t ≡ tab s t) → ((t : ℕ) → s.stands (suc t) ≡ Some g → run_reads (s.operations g ++ (a ∷ [])) (tab s t) ≡ s.saw g ++ xs) → IsOpen done next g (fn u) → TellsStory done next
  inv_did fine tabs mine mine' = record {
    fine = fine;
    stamps = i.stamps;
    first = i.first;
    later = i.later;
    silent = λ h lt. let ne : g ≡ h → ⊥ = λ e. omega (arith, found_known l i.fine g u f) in (acts_other h ne ∙ (i.silent h lt).0, saw_other h ne ∙ (i.silent h lt).1);
    placed = did_placed tabs mine;
    value = λ t k le. i.value t k le ∙ ap (λ v. v k) (sym (tabs t));
    opened = did_opened mine';
  }

-- the keys of a read are in the read list that it leaves
pub read_keys_push : (rs : List Range) (r : Range) → read_keys (rs ++ (r ∷ [])) ≡ read_keys rs ++ (range_with_len r.first r.count ++ [])
read_keys_push [] r = refl
read_keys_push (x ∷ rs) r = ap (λ ks. range_with_len x.first x.count ++ ks) (read_keys_push rs r) ∙ sym (append_assoc (range_with_len x.first x.count) (read_keys rs) (range_with_len r.first r.count ++ []))

pub any_covers : (P : ℕ → Type 0) (k n : ℕ) (rs : List Range) → list_any (same_range k n) rs ≡ true → AllByRecursion P (read_keys rs) → AllByRecursion P (range_with_len k n)
any_covers P k n [] e al = cc
any_covers P k n (r ∷ rs) e al = ⊎_elim
    (λ q. let p = and_parts (eqb r.first k) (eqb r.count n) q in
    subst (λ x. AllByRecursion P (range_with_len x n)) (eqb-true _ _ p.0) (subst (λ y. AllByRecursion P (range_with_len r.first y)) (eqb-true _ _ p.1) (all_left P (range_with_len r.first r.count) (read_keys rs) al)))
    (λ q. any_covers P k n rs q (all_right P (range_with_len r.first r.count) (read_keys rs) al))
    (or_cases (same_range k n r) (list_any (same_range k n) rs) e)

with_range_covers : (P : ℕ → Type 0) (rs : List Range) (k n : ℕ) → AllByRecursion P (read_keys (with_range rs k n)) → AllByRecursion P (read_keys rs) × AllByRecursion P (range_with_len k n)
with_range_covers P rs k n al = go (list_any (same_range k n) rs) refl al
  where
    go : (b : Bool) → list_any (same_range k n) rs ≡ b → AllByRecursion P (read_keys (cond b rs (rs ++ (record { first = k; count = n } ∷ [])))) → AllByRecursion P (read_keys rs) × AllByRecursion P (range_with_len k n)
    go true e q = (q, any_covers P k n rs e q)
    go false e q = let r = subst (AllByRecursion P) (read_keys_push rs (record { first = k; count = n })) q in (all_left P (read_keys rs) _ r, all_left P (range_with_len k n) [] (all_right P (read_keys rs) (range_with_len k n ++ []) r))

-- of an updater's ranges only one of no keys does not join
pub joins_not : (u : Transaction) (n : ℕ) → is_reader u.kind ≡ false → joins u n ≡ false → n ≡ 0
joins_not u n upd e = let none : ltb 0 n ≡ false = rw upd at e in omega (arith, ltb-false 0 n none)

joined_covers : (P : ℕ → Type 0) (u : Transaction) (k n : ℕ) → is_reader u.kind ≡ false → AllByRecursion P (read_keys (joined u k n).reads) → AllByRecursion P (read_keys u.reads) × AllByRecursion P (range_with_len k n)
joined_covers P u k n upd al = go (joins u n) refl al
  where
    go : (j : Bool) → joins u n ≡ j → AllByRecursion P (read_keys (cond j (record { start = u.start; kind = u.kind; reads = with_range u.reads k n; writes = u.writes }) u).reads) → AllByRecursion P (read_keys u.reads) × AllByRecursion P (range_with_len k n)
    go true e q = with_range_covers P u.reads k n q
    go false e q = (q, subst (λ m. AllByRecursion P (range_with_len k m)) (sym (joins_not u n upd e)) tt)

eqb_sym : (a b : ℕ) → eqb a b ≡ eqb b a
eqb_sym a b = ⊎_elim (λ e. eq-eqb a b e ∙ sym (eq-eqb b a (sym e))) (λ ne. ne_eqb a b ne ∙ sym (ne_eqb b a (λ e. ne (sym e)))) (cases_eq a b)

value_cond : (b : Bool) (x d : ℕ) (o : Option ℕ) → cond b x (unwrap_or o d) ≡ unwrap_or (cond b (Some x) o) d
value_cond true x d o = refl
value_cond false x d o = refl

module _ (s : Story) (l : Ledger) (i : TellsStory s l) (g : ℕ) (u : Transaction) (f : found l.active g ≡ Some u) where
  -- an updater that is active stands nowhere
  stands_not : is_reader u.kind ≡ false → {P : Type 0} (t : ℕ) → s.stands (suc t) ≡ Some g → P
  stands_not upd t e = let reads = ((i.placed t g e).alone u f).0 in cc

  write_tab : (k x : ℕ) → is_reader u.kind ≡ false → (t : ℕ) → tab (did s g (write_key k x) []) t ≡ tab s t
  write_tab k x upd t = tab_same (did s g (write_key k x) []) s t (λ n v le. go n v (s.stands (suc n)) refl)
    where
      go : (n : ℕ) (v : Table) (o : Option ℕ) → s.stands (suc n) ≡ o → run (operations_at (did s g (write_key k x) []) o) v ≡ run (operations_at s o) v
      go n v None e = refl
      go n v (Some h) e = ⊎_elim (λ is. stands_not upd n (subst (λ y. s.stands (suc n) ≡ Some y) (sym is) e)) (λ ne. ap (λ ac. run ac v) (acts_other s l i g u f (write_key k x) [] (λ t. having_made t (Call.Write g k x)) (call_keeps (Call.Write g k x)) h ne)) (cases_eq g h)

  pub inv_write : (k x : ℕ) → is_reader u.kind ≡ false → IsSound (with_call l g (Call.Write g k x)) → TellsStory (did s g (write_key k x) []) (with_call l g (Call.Write g k x))
  inv_write k x upd fine =
      let o = i.opened g u f in
      let fn : Transaction → Transaction = λ t. having_made t (Call.Write g k x) in
      let mine = acts_mine s l i g u f (write_key k x) [] fn (call_keeps (Call.Write g k x)) in
      inv_did s l i g u f (write_key k x) [] fn (call_keeps (Call.Write g k x)) fine (write_tab k x upd) (λ t e. stands_not upd t e)
      (record {
        own = λ v j. ap (λ ac. run ac v j) mine ∙ ap (λ w. w j) (run_push (s.operations g) (write_key k x) v) ∙ ap (cond (eqb j k) x) (o.own v j) ∙ value_cond (eqb j k) x (v j) (own_write j u.writes) ∙ ap (λ b. unwrap_or (cond b (Some x) (own_write j u.writes)) (v j)) (eqb_sym j k) ∙ ap (λ q. unwrap_or q (v j)) (sym (own_written j k x u.writes));
        saw = λ r v al. ap (λ ac. run_reads ac v) mine ∙ run_reads_push (s.operations g) (write_key k x) v ∙ ap (λ ys. ys ++ []) (o.saw r v al) ∙ sym (saw_mine s l i g u f (write_key k x) [] fn (call_keeps (Call.Write g k x)));
        none = λ r. cc;
      })

  read_tab : (k n : ℕ) (how : Showing) (xs : List Sight) (t : ℕ) → tab (did s g (read_range k n how) xs) t ≡ tab s t
  read_tab k n how xs t = tab_same (did s g (read_range k n how) xs) s t (λ m v le. go v (s.stands (suc m)))
    where
      go : (v : Table) (o : Option ℕ) → run (operations_at (did s g (read_range k n how) xs) o) v ≡ run (operations_at s o) v
      go v None = refl
      go v (Some h) = cond_both (eqb g h) (s.operations h ++ (read_range k n how ∷ [])) (s.operations h) (λ ac. run ac v ≡ run (s.operations h) v) (λ _. run_push (s.operations h) (read_range k n how) v) (λ _. refl)

  -- what a reader sees is the table at its tick
  read_placed : (k n : ℕ) (how : Showing) (t : ℕ) → s.stands (suc t) ≡ Some g → run_reads (s.operations g ++ (read_range k n how ∷ [])) (tab s t) ≡ s.saw g ++ (sight_of how k (map (seen l u) (range_with_len k n)) ∷ [])
  read_placed k n how t e =
      let p = i.placed t g e in
      let r = p.alone u f in
      let o = i.opened g u f in
      let le : t ≤ l.clock = omega (arith, stands_by s l i (suc t) g e) in
      let each : (j : ℕ) → run (s.operations g) (tab s t) j ≡ seen l u j = λ j.
      o.own (tab s t) j ∙ ap (λ ws. unwrap_or (own_write j ws) (tab s t j)) (o.none r.0) ∙ sym (i.value t j le) ∙ ap (λ x. value_below j x l.versions) (sym (found_start l.active g u f ∙ r.1)) ∙ ap (λ b. cond b (value_below j u.start l.versions) (unwrap_or (own_write j u.writes) (newest_value j l.versions))) (sym r.0) in
      run_reads_push (s.operations g) (read_range k n how) (tab s t) ∙ ap (λ ys. ys ++ (sight_of how k (map (run (s.operations g) (tab s t)) (range_with_len k n)) ∷ [])) p.same ∙ ap (λ ys. s.saw g ++ (sight_of how k ys ∷ [])) (map_all _ (seen l u) (range_with_len k n) (all_each _ each (range_with_len k n)))

  pub inv_read : (k n : ℕ) (how : Showing) → IsSound (with_call l g (Call.Read g k n)) → TellsStory (did s g (read_range k n how) (sight_of how k (map (seen l u) (range_with_len k n)) ∷ [])) (with_call l g (Call.Read g k n))
  inv_read k n how fine =
      let o = i.opened g u f in
      let xs = sight_of how k (map (seen l u) (range_with_len k n)) ∷ [] in
      let fn : Transaction → Transaction = λ t. having_made t (Call.Read g k n) in
      let mine = acts_mine s l i g u f (read_range k n how) xs fn (call_keeps (Call.Read g k n)) in
      let kind : (joined u k n).kind ≡ u.kind = (call_keeps (Call.Read g k n)).kind u in
      inv_did s l i g u f (read_range k n how) xs fn (call_keeps (Call.Read g k n)) fine (read_tab k n how xs) (read_placed k n how)
      (record {
        own = λ v j. ap (λ ac. run ac v j) mine ∙ ap (λ w. w j) (run_push (s.operations g) (read_range k n how) v) ∙ o.own v j ∙ ap (λ ws. unwrap_or (own_write j ws) (v j)) (sym (joined_writes u k n));
        saw = λ r v al.
            let upd : is_reader u.kind ≡ false = ap is_reader (sym kind) ∙ r in
            let c = joined_covers (IsStill l g v) u k n upd al in
            let each : AllByRecursion (λ j. run (s.operations g) v j ≡ seen l u j) (range_with_len k n) = All-weaker (IsStill l g v) (λ j. run (s.operations g) v j ≡ seen l u j) (λ j q. o.own v j ∙ ap (unwrap_or (own_write j u.writes)) q.0 ∙ ap (λ b. cond b (value_below j u.start l.versions) (unwrap_or (own_write j u.writes) (newest_value j l.versions))) (sym upd)) (range_with_len k n) c.1 in
            ap (λ ac. run_reads ac v) mine ∙ run_reads_push (s.operations g) (read_range k n how) v ∙ ap (λ ys. ys ++ (sight_of how k (map (run (s.operations g) v) (range_with_len k n)) ∷ [])) (o.saw upd v c.0) ∙ ap (λ ys. s.saw g ++ (sight_of how k ys ∷ [])) (map_all _ (seen l u) (range_with_len k n) each) ∙ sym (saw_mine s l i g u f (read_range k n how) xs fn (call_keeps (Call.Read g k n)));
        none = λ r. joined_writes u k n ∙ o.none (ap is_reader (sym kind) ∙ r);
      })

abbrev pub stood : Story → ℕ → ℕ → Story
stood s c g = placing s (λ t. cond (eqb c t) (Some g) (s.stands t))

module _ (s : Story) (l : Ledger) (i : TellsStory s l) (g : ℕ) (u : Transaction) (f : found l.active g ≡ Some u) (upd : is_reader u.kind ≡ false) (none_stale_left : stale_read l u ≡ None) where
  abbrev c : ℕ
  c = l.clock + 1

  commit_before : (t : ℕ) → t ≤ l.clock → (stood s c g).stands t ≡ s.stands t
  commit_before t le = rw (ne_eqb (l.clock + 1) t (λ e. omega arith))

  commit_old : (t : ℕ) → t ≤ l.clock → tab (stood s c g) t ≡ tab s t
  commit_old t le = tab_before s (stood s c g).stands l.clock t commit_before le

  commit_tab : tab (stood s c g) (suc l.clock) ≡ run (s.operations g) (tab s l.clock)
  commit_tab =
      let here : (stood s c g).stands (suc l.clock) ≡ Some g = rw (eq-eqb (l.clock + 1) (suc l.clock) (omega arith)) in
      ap (λ o. run (operations_at s o) (tab (stood s c g) l.clock)) here ∙ ap (run (s.operations g)) (commit_old l.clock (omega arith))

  commit_saw : run_reads (s.operations g) (tab s l.clock) ≡ s.saw g
  commit_saw =
      let at = found_start l.active g u f in
      let newest : (k : ℕ) → tab s l.clock k ≡ newest_value k l.versions = λ k. sym (i.value l.clock k (omega arith)) ∙ value_newest k l.clock (suc l.clock) l.versions i.stamps (omega arith) in
      (i.opened g u f).saw upd (tab s l.clock) (All-weaker (λ k. granule_stamp l.limits.granule k l.versions ≤ u.start) (IsStill l g (tab s l.clock)) (λ k q. (newest k, subst (λ x. granule_stamp l.limits.granule k l.versions ≤ x) at q)) (read_keys u.reads) (none_stale l.limits.granule l.versions u.start (read_keys u.reads) none_stale_left))

  commit_placed : (t h : ℕ) → (stood s c g).stands (suc t) ≡ Some h → IsStanding (stood s c g) (installed l u) t h
  commit_placed t h e = ⊎_elim
      (λ is. let t-is : t ≡ l.clock = omega arith in
      let e' : Some g ≡ Some h = rw (eq-eqb (l.clock + 1) (suc t) is) at e in
      let h-is : g ≡ h = some_same g h (Some g) refl e' in
      subst (λ x. IsStanding (stood s c g) (installed l u) x h) (sym t-is) (subst (λ x. IsStanding (stood s c g) (installed l u) l.clock x) h-is
      (record {
        known = omega (arith, found_known l i.fine g u f);
        same = ap (run_reads (s.operations g)) (commit_old l.clock (omega arith)) ∙ commit_saw;
        alone = λ x q. absurd ((found_without l.active u.start g x q).1 (sym (found_start l.active g u f)));
      })))
      (λ ne. let e' : s.stands (suc t) ≡ Some h = rw (ne_eqb (l.clock + 1) (suc t) ne) at e in
      let p = i.placed t h e' in
      let le = stands_by s l i (suc t) h e' in
      record { known = omega (arith, p.known); same = ap (run_reads (s.operations h)) (commit_old t (omega arith)) ∙ p.same; alone = λ x q. p.alone x (found_without l.active u.start h x q).0 })
      (cases_eq (l.clock + 1) (suc t))

  commit_value : (t k : ℕ) → t ≤ l.clock + 1 → value_below k (suc t) (installed l u).versions ≡ tab (stood s c g) t k
  commit_value t k le = ⊎_elim
      (λ lt. let is : t ≡ suc l.clock = omega arith in
      subst (λ x. value_below k (suc x) (installed l u).versions ≡ tab (stood s c g) x k) (sym is)
      (value_after k (l.clock + 1) (suc (suc l.clock)) u.writes l.versions (omega arith)
      ∙ ap (unwrap_or (own_write k u.writes)) (value_newest k l.clock (suc (suc l.clock)) l.versions i.stamps (omega arith) ∙ sym (value_newest k l.clock (suc l.clock) l.versions i.stamps (omega arith)) ∙ i.value l.clock k (omega arith))
      ∙ sym ((i.opened g u f).own (tab s l.clock) k) ∙ ap (λ v. v k) (sym commit_tab)))
      (λ ge. value_before k (l.clock + 1) (suc t) u.writes l.versions (omega arith) ∙ i.value t k ge ∙ ap (λ v. v k) (sym (commit_old t ge)))
      (cases_lt l.clock t)

  commit_opened : (h : ℕ) (t : Transaction) → found (installed l u).active h ≡ Some t → IsOpen (stood s c g) (installed l u) h t
  commit_opened h t q =
      let q' = (found_without l.active u.start h t q).0 in
      let o = i.opened h t q' in
      let lt : h < l.clock + 1 = omega (arith, found_known l i.fine h t q') in
      record {
        own = o.own;
        saw = λ r v al. o.saw r v (All-weaker (IsStill (installed l u) h v) (IsStill l h v) (λ k z. let w = granule_kept l.limits.granule k (l.clock + 1) h u.writes l.versions lt z.1 in (z.0 ∙ w.0, w.1)) (read_keys t.reads) al);
        none = o.none;
      }

  pub inv_commit : IsSound (installed l u) → TellsStory (stood s c g) (installed l u)
  inv_commit fine = record {
    fine = fine;
    stamps = All-append _ (stamped (l.clock + 1) u.writes) l.versions (all_stamped (λ v. v.stamp ≤ l.clock + 1) (l.clock + 1) u.writes (all_each _ (λ w. omega arith) u.writes)) (All-weaker _ _ (λ v le. omega arith) l.versions i.stamps);
    first = commit_before 0 (omega arith) ∙ i.first;
    later = λ t lt. rw (ne_eqb (l.clock + 1) t (λ e. omega arith)) (i.later t (omega arith));
    silent = λ h lt. i.silent h (omega arith);
    placed = commit_placed;
    value = commit_value;
    opened = commit_opened;
  }
