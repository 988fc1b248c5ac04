-- What an updater's commit answers, told of the versions: which restarts and which fulls there are.
use Rattle.std.proofs.Common.{◌≡◌, ℕ, ◌+◌, ◌-◌, ◌<◌, ◌≤◌, max, Bool, true, false, cond, ◌&&◌, ◌||◌, eqb, ltb, List, [], ◌∷◌, ◌++◌, length, Some, None, Ok, Option, Result, sym, refl, ap, ◌∙◌, subst, arith}
use Rattle.std.specs.List.{AllByRecursion, find}
use Rattle.std.specs.Option.{is_some, option_map}
use Rattle.std.proofs.lemmas.Bool.{ltb-true, le-ltb, cond_both}
use Rattle.ledger.specs.declared.Kind.{Kind}
use Rattle.ledger.specs.declared.Kind.TheVariants.{Reader, Updater}
use Rattle.ledger.specs.declared.Write.{Write}
use Rattle.ledger.specs.declared.Fault.{Fault}
use Rattle.ledger.specs.declared.Verdict.TheVariants.{Closed, Restart, Spent}
use Rattle.ledger.specs.declared.Call.{Call}
use Rattle.ledger.specs.declared.Done.{Done}
use Rattle.ledger.specs.Ledger.{Limits, Transaction, Version, Ledger, Shortage, found, is_reader, present_count, live_count, shortage}
use Rattle.ledger.specs.Calls.{accepted, maker, step, out_of_ticks, reclaimed, granule_stamp, StaleRead, stale_read_among, stale_read, read_keys, shortage_in, reclaimed_if_short, stamped, ended, full_or_committed, verdict_after, verdict, is_judged, judged, commit_effect}
use Rattle.ledger.specs.Reach.{IsReached}
use Rattle.ledger.specs.Orderly.{IsSafelyReclaimed}
use Rattle.ledger.specs.History.{Made, Deed, after, IsTold}
use Rattle.ledger.specs.Restarts.{restart_of, full_of}
use Rattle.ledger.specs.Laws.{StampedValue, newest_below, live_shortage, FullLaw, PastLaw, StampLaw, BlindLaw}
use Rattle.ledger.proofs.Actives.{never, some_same, found_start}
use Rattle.ledger.proofs.Presence.{stale_read_at, stale_read_same, below_same}
use Rattle.ledger.proofs.Deaths.{bare_reclaimed, live_and_dead, present_reclaimed}
use Rattle.ledger.proofs.Orders.{order, dated, reached, told_older}
use Rattle.ledger.proofs.Steps.{checked, none_short, not_short, Makes, resting, beginning, reading, setting, committing, ending, Course, step_keeps, course_of}

-- The verdict

restart_of_verdict : (l : Ledger) (t : Transaction) → restart_of (Ok (Done.Ended (verdict l t))) ≡ stale_read l t
restart_of_verdict l t = go (stale_read l t)
  where
    unless_full : (s : Option Shortage) → restart_of (Ok (Done.Ended (full_or_committed l s))) ≡ None
    unless_full (Some s) = refl
    unless_full None = refl

    go : (o : Option StaleRead) → restart_of (Ok (Done.Ended (verdict_after l t o))) ≡ o
    go (Some c) = refl
    go None = cond_both (out_of_ticks l.clock l.limits.last) Spent (full_or_committed l (shortage_in l (length t.writes))) (λ v. restart_of (Ok (Done.Ended v)) ≡ None) (λ _. refl) (λ _. unless_full (shortage_in l (length t.writes)))

full_of_verdict : (l : Ledger) (t : Transaction) → full_of (Ok (Done.Ended (verdict l t))) ≡ cond (is_some (stale_read l t) || out_of_ticks l.clock l.limits.last) None (shortage_in l (length t.writes))
full_of_verdict l t = go (stale_read l t)
  where
    unless_spent : (b : Bool) (s : Option Shortage) → full_of (Ok (Done.Ended (cond b Spent (full_or_committed l s)))) ≡ cond b None s
    unless_spent true s = refl
    unless_spent false (Some s) = refl
    unless_spent false None = refl

    go : (o : Option StaleRead) → full_of (Ok (Done.Ended (verdict_after l t o))) ≡ cond (is_some o || out_of_ticks l.clock l.limits.last) None (shortage_in l (length t.writes))
    go (Some c) = refl
    go None = unless_spent (out_of_ticks l.clock l.limits.last) (shortage_in l (length t.writes))

-- The ledger that is judged

-- what holds of it holds of it as it stands, not short, and reclaimed
if_short_both : (l : Ledger) (n : ℕ) (P : Ledger → Type 0) → P (reclaimed l) → (n ≤ l.limits.cells - present_count l → P l) → P (reclaimed_if_short l n)
if_short_both l n P p q = cond_both (is_some (shortage_in l n)) (reclaimed l) l P (λ _. p) (λ e. q (not_short l.limits.cells (present_count l) n e))

-- it is short of cells exactly if the live versions leave too few
shortage_if_short : (l : Ledger) (n : ℕ) → IsSafelyReclaimed l → shortage_in (reclaimed_if_short l n) n ≡ shortage l.limits.cells (live_count l) n
shortage_if_short l n y = if_short_both l n (λ m. shortage_in m n ≡ shortage l.limits.cells (live_count l) n)
    (ap (λ x. shortage l.limits.cells x n) (present_reclaimed l y.removed))
    (λ le. none_short l.limits.cells (present_count l) n le ∙ sym (none_short l.limits.cells (live_count l) n (omega (arith, le, live_and_dead l y.removed))))

-- a reclaim takes no stale read away
stale_read_if_short : (l : Ledger) (n : ℕ) (t : Transaction) → stale_read (reclaimed_if_short l n) t ≡ stale_read l t
stale_read_if_short l n t = if_short_both l n (λ m. stale_read m t ≡ stale_read l t) (stale_read_same (reclaimed l).versions l.versions (bare_reclaimed l) l.limits.granule t.start (read_keys t.reads)) (λ _. refl)

ticks_if_short : (l : Ledger) (n : ℕ) → out_of_ticks (reclaimed_if_short l n).clock (reclaimed_if_short l n).limits.last ≡ out_of_ticks l.clock l.limits.last
ticks_if_short l n = if_short_both l n (λ m. out_of_ticks m.clock m.limits.last ≡ out_of_ticks l.clock l.limits.last) refl (λ _. refl)

is_judged_updater : (kind : Kind) (h : ℕ) → is_reader kind ≡ false → is_judged kind (Call.Commit h) ≡ true
is_judged_updater Reader h e = cc
is_judged_updater Updater h e = refl

-- an updater's commit
pub commit_judged : (l : Ledger) (b : List ℕ) (h : ℕ) (t : Transaction) → found l.active h ≡ Some t → is_reader t.kind ≡ false → step l (Call.Commit h) b ≡ accepted (judged (reclaimed_if_short l (length t.writes)) b t)
commit_judged l b h t f upd =
    ap (λ o. checked l b (maker l.limits.keys (length b) h (Call.Commit h) o) (commit_effect l b h)) f
    ∙ ap (λ (j : Bool). accepted (cond j (judged (reclaimed_if_short l (length t.writes)) b t) (record { done = Done.Ended Closed; buffer = b; ledger = ended l h }))) (is_judged_updater t.kind h upd)

pub restart_is : (l : Ledger) (b : List ℕ) (h : ℕ) (t : Transaction) → found l.active h ≡ Some t → is_reader t.kind ≡ false → restart_of (step l (Call.Commit h) b).answer ≡ stale_read l t
restart_is l b h t f upd = ap (λ o. restart_of o.answer) (commit_judged l b h t f upd) ∙ restart_of_verdict (reclaimed_if_short l (length t.writes)) t ∙ stale_read_if_short l (length t.writes) t

full_is : {l : Ledger} → IsReached l → (b : List ℕ) (h : ℕ) (t : Transaction) → found l.active h ≡ Some t → is_reader t.kind ≡ false → full_of (step l (Call.Commit h) b).answer ≡ live_shortage l t
full_is {l = l} r b h t f upd =
    let n = length t.writes in
    ap (λ o. full_of o.answer) (commit_judged l b h t f upd) ∙ full_of_verdict (reclaimed_if_short l n) t
    ∙ ap (λ o. cond (is_some o || out_of_ticks (reclaimed_if_short l n).clock (reclaimed_if_short l n).limits.last) None (shortage_in (reclaimed_if_short l n) n)) (stale_read_if_short l n t)
    ∙ ap (λ x. cond (is_some (stale_read l t) || x) None (shortage_in (reclaimed_if_short l n) n)) (ticks_if_short l n)
    ∙ ap (cond (is_some (stale_read l t) || out_of_ticks l.clock l.limits.last) None) (shortage_if_short l n (order r).safe)

-- the answer of a call in a history
told_answer : (n : Limits) (ms newer older : List Made) (m : Made) (c : Call) → IsTold n ms → ms ≡ newer ++ (m ∷ older) → m.call ≡ c → m.answer ≡ (step (after n older) c m.given).answer
told_answer n ms newer older m c t e call =
    (told_older n newer (m ∷ older) (subst (IsTold n) e t)).0 ∙ ap (λ x. (step (after n older) x m.given).answer) call

pub fulls : FullLaw
fulls n ms told newer older m h t e call f r = ap full_of (told_answer n ms newer older m (Call.Commit h) told e call) ∙ full_is (reached n older) m.given h t f r

-- A restart

first_past : (g : ℕ → ℕ) (vs : List Version) (s : ℕ) (ks : List ℕ) (x : StaleRead) → stale_read_among g vs s ks ≡ Some x → (s < x.stamp) × (x.stamp ≡ granule_stamp g x.key vs)
first_past g vs s [] x e = never x None refl e
first_past g vs s (k ∷ ks) x e = go (ltb s (granule_stamp g k vs)) refl e (first_past g vs s ks x)
  where
    go : (b : Bool) → ltb s (granule_stamp g k vs) ≡ b → option_map (λ (j : ℕ). stale_read_at j (granule_stamp g j vs)) (cond b (Some k) (find (λ j. ltb s (granule_stamp g j vs)) ks)) ≡ Some x → (stale_read_among g vs s ks ≡ Some x → (s < x.stamp) × (x.stamp ≡ granule_stamp g x.key vs)) → (s < x.stamp) × (x.stamp ≡ granule_stamp g x.key vs)
    go true d q later =
        let here : StaleRead = record { key = k; stamp = granule_stamp g k vs } in
        let i : here ≡ x = some_same here x (Some here) refl q in
        subst (λ y. (s < y.stamp) × (y.stamp ≡ granule_stamp g y.key vs)) i (ltb-true s (granule_stamp g k vs) d, refl)
    go false d q later = later q

pub granule_le : (g : ℕ → ℕ) (k c : ℕ) (vs : List Version) → AllByRecursion (λ v. v.stamp ≤ c) vs → granule_stamp g k vs ≤ c
granule_le g k c [] a = omega arith
granule_le g k c (v ∷ vs) a = let ih = granule_le g k c vs a.1 in cond_both (eqb (g v.key) (g k)) (max v.stamp (granule_stamp g k vs)) (granule_stamp g k vs) (λ x. x ≤ c) (λ _. omega (arith, a.0)) (λ _. ih)

-- a commit that is restarted is an updater's, and names its stale read
pub restarted : (l : Ledger) (b : List ℕ) (h k s : ℕ) → (step l (Call.Commit h) b).answer ≡ Ok (Done.Ended (Restart k s)) → (t : Transaction) × (found l.active h ≡ Some t) × (stale_read l t ≡ Some (record { key = k; stamp = s }))
restarted l b h k s e = go (found l.active h) refl e
  where
    updater : (t : Transaction) (x : Bool) → is_reader t.kind ≡ x → found l.active h ≡ Some t → (accepted (commit_effect l b h t)).answer ≡ Ok (Done.Ended (Restart k s)) → stale_read l t ≡ Some (record { key = k; stamp = s })
    updater t true r f q = closes t.kind r q
      where
        closes : (kind : Kind) → is_reader kind ≡ true → ◌≡◌ {A = Result Done Fault} (Ok (cond (is_judged kind (Call.Commit h)) (judged (reclaimed_if_short l (length t.writes)) b t) (record { done = Done.Ended Closed; buffer = b; ledger = ended l h })).done) (Ok (Done.Ended (Restart k s))) → stale_read l t ≡ Some (record { key = k; stamp = s })
        closes Reader r' q' = cc
        closes Updater r' q' = cc
    updater t false r f q = sym (restart_is l b h t f r) ∙ ap restart_of e

    go : (o : Option Transaction) → found l.active h ≡ o → (checked l b (maker l.limits.keys (length b) h (Call.Commit h) o) (commit_effect l b h)).answer ≡ Ok (Done.Ended (Restart k s)) → (t : Transaction) × (found l.active h ≡ Some t) × (stale_read l t ≡ Some (record { key = k; stamp = s }))
    go None f q = cc
    go (Some t) f q = (t, f, updater t (is_reader t.kind) refl f q)

pub stamps_later : StampLaw
stamps_later l r h k s b e =
    let x = restarted l b h k s e in
    let p = first_past l.limits.granule l.versions x.0.start (read_keys x.0.reads) (record { key = k; stamp = s }) x.2 in
    (omega (arith, p.0, found_start l.active h x.0 x.1), omega (arith, p.1, granule_le l.limits.granule k l.clock l.versions (dated r).stamps))

pub blind : BlindLaw
blind l r h k s b t f none e =
    let x = restarted l b h k s e in
    let same : x.0 ≡ t = some_same x.0 t (found l.active h) x.1 f in
    let empty : stale_read l x.0 ≡ None = ap (λ rs. stale_read_among l.limits.granule l.versions x.0.start (read_keys rs)) (ap (λ u. u.reads) same ∙ none) in
    never (record { key = k; stamp = s }) (stale_read l x.0) empty x.2

-- The past

below_before : (k c t : ℕ) (ws : List Write) (vs : List Version) → t ≤ c → newest_below k t (stamped c ws ++ vs) ≡ newest_below k t vs
below_before k c t [] vs le = refl
below_before k c t (w ∷ ws) vs le = go (eqb w.key k) (le-ltb c t le) (below_before k c t ws vs le)
  where
    go : (b : Bool) → ltb c t ≡ false → newest_below k t (stamped c ws ++ vs) ≡ newest_below k t vs → cond {A = Option StampedValue} (b && ltb c t) (Some (record { stamp = c; value = w.value })) (newest_below k t (stamped c ws ++ vs)) ≡ newest_below k t vs
    go true e ih = rw e ih
    go false e ih = ih

-- the clock does not fall, and what is below its next tick stays
pub record KeepsPast (k t : ℕ) (l m : Ledger) : Type 0 where
  pub clock : l.clock ≤ m.clock
  pub below : newest_below k t m.versions ≡ newest_below k t l.versions

past_made : (k t : ℕ) (l j m : Ledger) (d : Deed) → t ≤ l.clock + 1 → KeepsPast k t l j → Makes j d m → KeepsPast k t l m
past_made k t l j m d le p resting = p
past_made k t l j m d le p (beginning few more) = record { clock = omega (arith, p.clock); below = p.below }
past_made k t l j m d le p (reading how u f inside room) = record { clock = p.clock; below = p.below }
past_made k t l j m d le p (setting u f upd inside room) = record { clock = p.clock; below = p.below }
past_made k t l j m d le p (committing u f upd none_stale more room) = record { clock = omega (arith, p.clock); below = below_before k (j.clock + 1) t u.writes j.versions (omega (arith, p.clock)) ∙ p.below }
past_made k t l j m d le p (ending u f) = record { clock = p.clock; below = p.below }

past : (k t : ℕ) {l m : Ledger} {d : Deed} → t ≤ l.clock + 1 → Course l d m → KeepsPast k t l m
past k t {l = l} le c = step_keeps (KeepsPast k t l)
    (λ j p. record { clock = p.clock; below = below_same (reclaimed j).versions j.versions (bare_reclaimed j) k t ∙ p.below })
    (λ j m d p s. past_made k t l j m d le p s)
    (record { clock = omega arith; below = refl }) c

pub clock_later : {l m : Ledger} {d : Deed} → Course l d m → l.clock ≤ m.clock
clock_later c = (past 0 0 (omega arith) c).clock

pub past_stays : PastLaw
past_stays l r c b k t le = (past k t le (course_of l c b)).below
