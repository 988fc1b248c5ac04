-- What a step makes of a ledger, by what was done: the inversion of the calls.
use Rattle.std.proofs.Common.{◌≡◌, ℕ, ◌+◌, ◌-◌, ◌<◌, ◌≤◌, Bool, true, false, cond, not, ◌&&◌, ltb, leb, List, ◌++◌, map, length, take, drop, Some, None, Ok, Err, Option, Result, sym, refl, ap, ◌∙◌, subst, le_of_eq}
use Rattle.std.specs.List.{range_with_len}
use Rattle.std.specs.Option.{is_some}
use Rattle.std.specs.Result.{result_and}
use Rattle.refusals.specs.Results.{result_map}
use Rattle.ledger.specs.Figures.{figure_of}
use Rattle.std.proofs.lemmas.List.{take_at, drop_all, append-nil, length-replicate}
use Rattle.std.proofs.lemmas.List.FromFn.{length-map-range_with_len}
use Rattle.std.proofs.lemmas.Bool.{leb-false, ltb-false, leb-true, not-false, le-ltb}
use Rattle.ledger.specs.declared.TheConstants.{MAX_ACTIVE}
use Rattle.ledger.specs.declared.Kind.{Kind}
use Rattle.ledger.specs.declared.Kind.TheVariants.{Reader, Updater}
use Rattle.ledger.specs.declared.SummaryKind.{SummaryKind}
use Rattle.ledger.specs.declared.Fault.{Fault}
use Rattle.ledger.specs.declared.Fault.TheVariants.{KeyOutside, ShortBuffer, NoTransaction, ReadListFull}
use Rattle.ledger.specs.declared.Verdict.{Verdict}
use Rattle.ledger.specs.declared.Call.{Call}
use Rattle.ledger.specs.declared.Done.{Done}
use Rattle.ledger.specs.Ledger.{Transaction, Ledger, Shortage, handle_of, found, is_reader, present_count, shortage}
use Rattle.ledger.specs.Calls.{new_buffer, outcome, Outcome, Effect, accepted, StaleRead, maker, join_check, in_table, joins, read_list_full, write_list_full, out_of_ticks, opened, seen, with_call, begin_effect, read_effect, read_result, total_effect, total_result, write_effect, abort_effect, reclaimed, stale_read, shortage_in, full_or_committed, verdict_after, left_by, is_judged, judged, commit_effect, ended, installed, step}
use Rattle.ledger.specs.History.{Showing, in_full, as_figure, seen_values, seen_figure, sight_of, Deed, begins, reads, sets, commits, ends, rests, commit_deed, deed_of}
use Rattle.ledger.proofs.Actives.{found_start}

-- the ledger as a deed finds it: as it stands, or reclaimed
pub data OrReclaimed (l : Ledger) : Ledger → Type 0 where
  as_is : OrReclaimed l l
  after_reclaim : OrReclaimed l (reclaimed l)

-- what a deed makes of the ledger that it finds, each with what is known there
pub data Makes (l : Ledger) : Deed → Ledger → Type 0 where
  resting : Makes l rests l
  beginning : {kind : Kind} → length l.active < MAX_ACTIVE → l.clock < l.limits.last → Makes l (begins kind (l.clock + 1)) (opened l kind)
  reading : {h k n : ℕ} (how : Showing) (t : Transaction) → found l.active h ≡ Some t → k + n ≤ l.limits.keys → (joins t n && read_list_full t.reads k n) ≡ false → Makes l (reads h k n how (sight_of how k (map (seen l t) (range_with_len k n)))) (with_call l h (Call.Read h k n))
  setting : {h k x : ℕ} (t : Transaction) → found l.active h ≡ Some t → is_reader t.kind ≡ false → k + 1 ≤ l.limits.keys → write_list_full t.writes k ≡ false → Makes l (sets h k x) (with_call l h (Call.Write h k x))
  committing : {h : ℕ} (t : Transaction) → found l.active h ≡ Some t → is_reader t.kind ≡ false → stale_read l t ≡ None → l.clock < l.limits.last → length t.writes ≤ l.limits.cells - present_count l → Makes l (commits h (l.clock + 1)) (installed l t)
  ending : {h : ℕ} (t : Transaction) → found l.active h ≡ Some t → Makes l (ends h) (ended l h)

-- from l to m by a deed, perhaps after a reclaim
pub data Course (l : Ledger) (d : Deed) (m : Ledger) : Type 0 where
  course : {k : Ledger} → OrReclaimed l k → Makes k d m → Course l d m

-- what each reclaim keeps and each deed keeps, a step keeps
pub step_keeps : (P : Ledger → Type 0) → ((l : Ledger) → P l → P (reclaimed l)) → ((l m : Ledger) (d : Deed) → P l → Makes l d m → P m) → {l m : Ledger} {d : Deed} → P l → Course l d m → P m
step_keeps P by_reclaim by_deed {l = l} {m = m} {d = d} p (course as_is makes) = by_deed l m d p makes
step_keeps P by_reclaim by_deed {l = l} {m = m} {d = d} p (course after_reclaim makes) = by_deed (reclaimed l) m d (by_reclaim l p) makes

-- a call that is refused by a check, or has its effect
abbrev pub checked : {X : Type 0} → Ledger → List ℕ → Result X Fault → (X → Effect) → Outcome
checked l b r effect = outcome l b (result_map effect r)

-- Each call has a course

abbrev Goes : Ledger → Call → Outcome → Type 0
Goes l c o = Course l (deed_of c o.answer o.buffer) o.ledger

-- a test on the way
tested : {A : Type 0} (P : A → Type 0) (t : Bool) {x y : A} → (t ≡ true → P x) → (t ≡ false → P y) → P (cond t x y)
tested P true y n = y refl
tested P false y n = n refl

-- the values of a read are at the front of the buffer
front : (f : ℕ → ℕ) (k n : ℕ) (b : List ℕ) → take n (map f (range_with_len k n) ++ drop n b) ≡ map f (range_with_len k n)
front f k n b = take_at (map f (range_with_len k n)) (drop n b) n (length-map-range_with_len f k n)

-- a read is refused, or it has its effect, by an active transaction whose read list has room
pub read_way : (l : Ledger) (b : List ℕ) (h k n : ℕ) (P : Result Effect Fault → Type 0) → ((f : Fault) → P (Err f)) → ((t : Transaction) → found l.active h ≡ Some t → k + n ≤ l.limits.keys → (joins t n && read_list_full t.reads k n) ≡ false → P (Ok (read_effect l b h k n t))) → P (read_result l b h k n)
read_way l b h k n P refused done = go (found l.active h) refl
  where
    go : (o : Option Transaction) → found l.active h ≡ o → P (result_map (read_effect l b h k n) (maker l.limits.keys (length b) h (Call.Read h k n) o))
    go None e = refused (NoTransaction h)
    go (Some t) e =
        let G : Result (Unit {0}) Fault → Type 0 = λ r. P (result_map (read_effect l b h k n) (result_map (λ _. t) r)) in
        let H : Result (Unit {0}) Fault → Type 0 = λ r. G (result_and r (join_check h t k n)) in
        tested H (not (in_table l.limits.keys k n)) (λ _. refused (KeyOutside k)) (λ p.
        tested H (ltb (length b) n) (λ _. refused (ShortBuffer (length b))) (λ q.
        tested G (joins t n && read_list_full t.reads k n) (λ _. refused (ReadListFull h)) (λ r.
        done t e (leb-true _ _ (not-false _ p)) r)))

course_read : (l : Ledger) (b : List ℕ) (h k n : ℕ) → Goes l (Call.Read h k n) (outcome l b (read_result l b h k n))
course_read l b h k n = read_way l b h k n (λ r. Goes l (Call.Read h k n) (outcome l b r)) (λ _. course as_is resting)
    (λ t e inside room. subst (λ xs. Course l (reads h k n in_full (seen_values xs)) (with_call l h (Call.Read h k n))) (sym (front (seen l t) k n b)) (course as_is (reading in_full t e inside room)))

-- a buffer of just so many places has nothing but the values
pub filled : (f : ℕ → ℕ) (k n : ℕ) → map f (range_with_len k n) ++ drop n (new_buffer n) ≡ map f (range_with_len k n)
filled f k n = ap (λ ys. map f (range_with_len k n) ++ ys) (drop_all n (new_buffer n) (le_of_eq (length-replicate n 0))) ∙ append-nil _

course_total : (l : Ledger) (b : List ℕ) (h k n : ℕ) (s : SummaryKind) → Goes l (Call.Total h k n s) (outcome l b (total_result l b h k n s))
course_total l b h k n s = read_way l (new_buffer n) h k n (λ r. Goes l (Call.Total h k n s) (outcome l b (result_map (total_effect b k s) r))) (λ _. course as_is resting)
    (λ t e inside room. subst (λ xs. Course l (reads h k n (as_figure s) (seen_figure (figure_of s k xs))) (with_call l h (Call.Read h k n))) (sym (filled (seen l t) k n)) (course as_is (reading (as_figure s) t e inside room)))

course_write : (l : Ledger) (b : List ℕ) (h k x : ℕ) (o : Option Transaction) → found l.active h ≡ o → Goes l (Call.Write h k x) (checked l b (maker l.limits.keys (length b) h (Call.Write h k x) o) (λ _. write_effect l b h k x))
course_write l b h k x None e = course as_is resting
course_write l b h k x (Some t) e =
    let G : Result (Unit {0}) Fault → Type 0 = λ r. Goes l (Call.Write h k x) (checked l b (result_map (λ _. t) r) (λ _. write_effect l b h k x)) in
    tested G (is_reader t.kind) (λ _. course as_is resting) (λ p.
    tested G (not (in_table l.limits.keys k 1)) (λ _. course as_is resting) (λ q.
    tested G (write_list_full t.writes k) (λ _. course as_is resting) (λ r.
    course as_is (setting t e p (leb-true _ _ (not-false _ q)) r))))

-- without a shortage the writes have cells
pub enough : (cells taken n : ℕ) → shortage cells taken n ≡ None → n ≤ cells - taken
enough cells taken n e = go (ltb (cells - taken) n) refl e
  where
    go : (b : Bool) → ltb (cells - taken) n ≡ b → cond {A = Option Shortage} b (Some (record { writes = n; free = cells - taken })) None ≡ None → n ≤ cells - taken
    go true d q = cc
    go false d q = ltb-false _ _ d

pub none_short : (cells taken n : ℕ) → n ≤ cells - taken → shortage cells taken n ≡ None
none_short cells taken n le = let e = le-ltb (cells - taken) n le in rw e

pub not_short : (cells taken n : ℕ) → is_some (shortage cells taken n) ≡ false → n ≤ cells - taken
not_short cells taken n e = enough cells taken n (none (shortage cells taken n) e)
  where
    none : (s : Option Shortage) → is_some s ≡ false → s ≡ None
    none None q = refl
    none (Some s) q = cc

module _ (l m : Ledger) (w : OrReclaimed l m) (h : ℕ) (t : Transaction) (f : found m.active h ≡ Some t) (upd : is_reader t.kind ≡ false) where
  abbrev EndsBy : Verdict → Type 0
  EndsBy v = Course l (commit_deed h (Done.Ended v)) (left_by m t v)

  lost : Course l (ends h) (ended m (handle_of t))
  lost = subst (λ x. Course l (ends h) (ended m x)) (sym (found_start m.active h t f)) (course w (ending t f))

  cells_told : stale_read m t ≡ None → m.clock < m.limits.last → (s : Option Shortage) → shortage_in m (length t.writes) ≡ s → EndsBy (full_or_committed m s)
  cells_told clear more (Some s) e = lost
  cells_told clear more None e = course w (committing t f upd clear more (enough m.limits.cells (present_count m) (length t.writes) e))

  course_judged : (o : Option StaleRead) → stale_read m t ≡ o → EndsBy (verdict_after m t o)
  course_judged (Some c) e = lost
  course_judged None e = tested EndsBy (out_of_ticks m.clock m.limits.last) (λ _. lost) (λ p. cells_told e (leb-false _ _ p) (shortage_in m (length t.writes)) refl)

-- only an updater is judged
judged_updater : (kind : Kind) (h : ℕ) → is_judged kind (Call.Commit h) ≡ true → is_reader kind ≡ false
judged_updater Reader h e = cc
judged_updater Updater h e = refl

course_commit : (l : Ledger) (b : List ℕ) (h : ℕ) (o : Option Transaction) → found l.active h ≡ o → Goes l (Call.Commit h) (checked l b (maker l.limits.keys (length b) h (Call.Commit h) o) (commit_effect l b h))
course_commit l b h None e = course as_is resting
course_commit l b h (Some t) e =
    tested (λ (x : Effect). Goes l (Call.Commit h) (accepted x)) (is_judged t.kind (Call.Commit h)) (λ q.
    let upd = judged_updater t.kind h q in
    tested (λ m. Goes l (Call.Commit h) (accepted (judged m b t))) (is_some (shortage_in l (length t.writes)))
    (λ _. course_judged l (reclaimed l) after_reclaim h t e upd (stale_read (reclaimed l) t) refl)
    (λ _. course_judged l l as_is h t e upd (stale_read l t) refl))
    (λ _. course as_is (ending t e))

course_abort : (l : Ledger) (b : List ℕ) (h : ℕ) (o : Option Transaction) → found l.active h ≡ o → Goes l (Call.Abort h) (checked l b (maker l.limits.keys (length b) h (Call.Abort h) o) (λ _. abort_effect l b h))
course_abort l b h None e = course as_is resting
course_abort l b h (Some t) e = course as_is (ending t e)

pub course_of : (l : Ledger) (c : Call) (b : List ℕ) → Goes l c (step l c b)
course_of l (Call.Begin kind) b =
    let G : Result (Unit {0}) Fault → Type 0 = λ r. Goes l (Call.Begin kind) (checked l b r (λ _. begin_effect l b kind)) in
    tested G (leb MAX_ACTIVE (length l.active)) (λ _. course as_is resting) (λ p.
    tested G (out_of_ticks l.clock l.limits.last) (λ _. course as_is resting) (λ q. course as_is (beginning (leb-false _ _ p) (leb-false _ _ q))))
course_of l (Call.Read h k n) b = course_read l b h k n
course_of l (Call.Total h k n s) b = course_total l b h k n s
course_of l (Call.Write h k x) b = course_write l b h k x (found l.active h) refl
course_of l (Call.Commit h) b = course_commit l b h (found l.active h) refl
course_of l (Call.Abort h) b = course_abort l b h (found l.active h) refl
course_of l Call.Reclaim b = course after_reclaim resting
