-- Ticks are drawn one by one, and one that ended before another began stands earlier.
use Rattle.std.proofs.Common.{◌≡◌, ℕ, ◌+◌, ◌≤◌, Bool, true, false, cond, eqb, ◌⊎◌, List, [], ◌∷◌, ◌++◌, Some, None, Option, sym, refl, ap, ◌∙◌, subst, inl, inr, ⊎_elim, add-one, arith}
use Rattle.std.proofs.lemmas.List.{append_assoc}
use Rattle.std.proofs.lemmas.Bool.{eqb-true, eq-eqb, ne_eqb}
use Rattle.ledger.specs.declared.Kind.TheVariants.{Reader, Updater}
use Rattle.ledger.specs.declared.Call.{Call}
use Rattle.ledger.specs.Ledger.{Limits, Transaction, Ledger, found}
use Rattle.ledger.specs.Calls.{without, reclaimed}
use Rattle.ledger.specs.Orderly.{IsSound}
use Rattle.ledger.specs.History.{Made, Deed, deed, after, IsTold, is_begin_of, is_end_of, Standing, standing_in, at_tick, stands_at}
use Rattle.ledger.specs.Laws.{ticks_in, down_from, TickLaw, TimeLaw}
use Rattle.ledger.proofs.Actives.{call_keeps, found_start, none_changed, none_kept, none_without, never, some_same}
use Rattle.ledger.proofs.SoundActives.{sound_reclaimed, well_formed_found}
use Rattle.ledger.proofs.Orders.{sound, reached, told_older, course_told}
use Rattle.ledger.proofs.Steps.{as_is, after_reclaim, Makes, resting, beginning, reading, setting, committing, ending, Course, course, step_keeps}
use Rattle.ledger.proofs.Verdicts.{clock_later}
use Rattle.ledger.proofs.Histories.{within}

-- what a deed shows of the ledger that it finds, it shows of the ledger before, reclaimed or not
told_by : (P : Ledger → Type 0) → ((l : Ledger) → P (reclaimed l) → P l) → {l m : Ledger} {d : Deed} → ((k : Ledger) → Makes k d m → P k) → Course l d m → P l
told_by P back {l = l} f (course as_is makes) = f l makes
told_by P back {l = l} f (course after_reclaim makes) = back l (f (reclaimed l) makes)

-- Ticks

-- the tick that a deed drew is the next one
draws_made : (l m : Ledger) (d : Deed) → Makes l d m → ticks_in d ++ down_from l.clock ≡ down_from m.clock
draws_made l m d resting = refl
draws_made l m d (beginning few more) = rw add-one
draws_made l m d (reading how t f inside room) = refl
draws_made l m d (setting t f upd inside room) = refl
draws_made l m d (committing t f upd none_stale more room) = rw add-one
draws_made l m d (ending t f) = refl

draws : {l m : Ledger} {d : Deed} → Course l d m → ticks_in d ++ down_from l.clock ≡ down_from m.clock
draws {m = m} {d = d} c = told_by (λ k. ticks_in d ++ down_from k.clock ≡ down_from m.clock) (λ l e. e) (λ k s. draws_made k m d s) c

pub ticks : TickLaw
ticks n [] t = refl
ticks n (m ∷ ms) t = ap (λ xs. ticks_in (deed m) ++ xs) (ticks n ms t.2) ∙ draws (course_told n m ms t)

-- The clock never falls, and a begin draws its next tick

clock_newer : (n : Limits) (newer ms : List Made) → IsTold n (newer ++ ms) → (after n ms).clock ≤ (after n (newer ++ ms)).clock
clock_newer n [] ms t = omega arith
clock_newer n (m ∷ newer) ms t = omega (arith, clock_newer n newer ms t.2, clock_later (course_told n m (newer ++ ms) t))

begins_next : {l m : Ledger} {d : Deed} → Course l d m → (h : ℕ) → is_begin_of h d ≡ true → l.clock + 1 ≡ h
begins_next {m = m} {d = d} c h e = told_by (λ k. k.clock + 1 ≡ h) (λ l q. q) (λ k s. next k m d s e) c
  where
    next : (k m : Ledger) (d : Deed) → Makes k d m → is_begin_of h d ≡ true → k.clock + 1 ≡ h
    next k m d resting q = cc
    next k m d (beginning few more) q = eqb-true _ h q
    next k m d (reading how t f inside room) q = cc
    next k m d (setting t f upd inside room) q = cc
    next k m d (committing t f upd none_stale more room) q = cc
    next k m d (ending t f) q = cc

-- A transaction that has ended

-- it is not active, and its tick is drawn
abbrev IsGone : ℕ → Ledger → Type 0
IsGone g l = (found l.active g ≡ None) × (g ≤ l.clock)

gone_made : (g : ℕ) (l m : Ledger) (d : Deed) → IsGone g l → Makes l d m → IsGone g m
gone_made g l m d x resting = x
gone_made g l m d x (beginning few more) = (rw (ne_eqb (l.clock + 1) g (λ e. omega (arith, x.1))) x.0, omega (arith, x.1))
gone_made g l m d x (reading {h = h} {k = k} {n = n} how t f inside room) = (none_changed l.active h _ (call_keeps (Call.Read h k n)) g x.0, x.1)
gone_made g l m d x (setting {h = h} {k = k} {x = v} t f upd inside room) = (none_changed l.active h _ (call_keeps (Call.Write h k v)) g x.0, x.1)
gone_made g l m d x (committing t f upd none_stale more room) = (none_kept _ l.active g x.0, omega (arith, x.1))
gone_made g l m d x (ending t f) = (none_kept _ l.active g x.0, x.1)

gone_after : (g : ℕ) {l m : Ledger} {d : Deed} → IsGone g l → Course l d m → IsGone g m
gone_after g x c = step_keeps (IsGone g) (λ l y. y) (gone_made g) x c

-- a deed gives a standing only to a transaction that is active or begins, at the next tick, which is not before its handle's
abbrev AreStandings : Option Standing → Ledger → Type 0
AreStandings o l = (p : Standing) → o ≡ Some p → (p.handle ≤ p.tick) × (p.tick ≡ l.clock + 1) × (IsGone p.handle l → ⊥)

standings_none : (l : Ledger) → AreStandings None l
standings_none l p e = never p None refl e

standings_made : (l m : Ledger) (d : Deed) → IsSound l → Makes l d m → AreStandings (standing_in d) l
standings_made l m d s resting = standings_none l
standings_made l m d s (beginning {kind = Reader} few more) = λ p e.
    let here : Standing = record { tick = l.clock + 1; handle = l.clock + 1 } in
    let i : here ≡ p = some_same here p (Some here) refl e in
    (omega (arith, ap (λ x. x.tick) i, ap (λ x. x.handle) i), sym (ap (λ x. x.tick) i), λ x. omega (arith, x.1, ap (λ x. x.handle) i))
standings_made l m d s (beginning {kind = Updater} few more) = standings_none l
standings_made l m d s (reading how t f inside room) = standings_none l
standings_made l m d s (setting t f upd inside room) = standings_none l
standings_made l m d s (committing {h = g} u f upd none_stale more room) = λ p e.
    let here : Standing = record { tick = l.clock + 1; handle = g } in
    let i : here ≡ p = some_same here p (Some here) refl e in
    let b = well_formed_found s g u f in
    (omega (arith, ap (λ x. x.tick) i, ap (λ x. x.handle) i, b.0.drawn, b.1), sym (ap (λ x. x.tick) i), λ x. never u (found l.active p.handle) x.0 (subst (λ y. found l.active y ≡ Some u) (ap (λ x. x.handle) i) f))
standings_made l m d s (ending t f) = standings_none l

standings : {l m : Ledger} {d : Deed} → IsSound l → Course l d m → AreStandings (standing_in d) l
standings {l = l} {m = m} {d = d} s (course as_is makes) = standings_made l m d s makes
standings {l = l} {m = m} {d = d} s (course after_reclaim makes) = standings_made (reclaimed l) m d (sound_reclaimed l s) makes

-- who stands at a tick was placed by the newest deed, or stood there before
at_cases : (t h : ℕ) (o : Option Standing) (rest : Option ℕ) → at_tick t o rest ≡ Some h → (o ≡ Some (record { tick = t; handle = h })) ⊎ (rest ≡ Some h)
at_cases t h None rest e = inr e
at_cases t h (Some p) rest e = go (eqb p.tick t) refl e
  where
    go : (b : Bool) → eqb p.tick t ≡ b → cond b (Some p.handle) rest ≡ Some h → (Some p ≡ Some (record { tick = t; handle = h })) ⊎ (rest ≡ Some h)
    go true d q =
        let mk : ℕ → ℕ → Option Standing = λ a b. Some (record { tick = a; handle = b }) in
        inl (ap (λ a. mk a p.handle) (eqb-true p.tick t d) ∙ ap (mk t) (some_same p.handle h (Some p.handle) refl q))
    go false d q = inr q

standing_told : (n : Limits) (m : Made) (ms : List Made) → IsTold n (m ∷ ms) → AreStandings (standing_in (deed m)) (after n ms)
standing_told n m ms t = standings (sound (reached n ms)) (course_told n m ms t)

-- one that has ended is placed no more
stood_before : (n : Limits) (newer ms : List Made) (g s : ℕ) → IsTold n (newer ++ ms) → IsGone g (after n ms) → stands_at (newer ++ ms) s ≡ Some g → stands_at ms s ≡ Some g
stood_before n [] ms g s t x e = e
stood_before n (m ∷ newer) ms g s t x e = ⊎_elim
    (λ p. absurd ((standing_told n m (newer ++ ms) t (record { tick = s; handle = g }) p).2 (gone_newer newer t.2)))
    (λ q. stood_before n newer ms g s t.2 x q)
    (at_cases s g (standing_in (deed m)) (stands_at (newer ++ ms) s) e)
  where
    gone_newer : (xs : List Made) → IsTold n (xs ++ ms) → IsGone g (after n (xs ++ ms))
    gone_newer [] t' = x
    gone_newer (y ∷ xs) t' = gone_after g (gone_newer xs t'.2) (course_told n y (xs ++ ms) t')

-- no one stands before its handle's tick
stands_late : (n : Limits) (ms : List Made) → IsTold n ms → (t h : ℕ) → stands_at ms t ≡ Some h → h ≤ t
stands_late n [] told t h e = never h None refl e
stands_late n (m ∷ ms) told t h e = ⊎_elim (λ p. (standing_told n m ms told (record { tick = t; handle = h }) p).0) (λ q. stands_late n ms told.2 t h q) (at_cases t h (standing_in (deed m)) (stands_at ms t) e)

-- who is placed at a tick stands there for good
pub stands_stay : (n : Limits) (newer older : List Made) (m : Made) (t h : ℕ) → IsTold n (newer ++ (m ∷ older)) → standing_in (deed m) ≡ Some (record { tick = t; handle = h }) → stands_at (newer ++ (m ∷ older)) t ≡ Some h
stands_stay n [] older m t h told e = ap (λ o. at_tick t o (stands_at older t)) e ∙ rw (eq-eqb t t refl)
stands_stay n (x ∷ newer) older m t h told e = go (standing_in (deed x)) (standing_told n x (newer ++ (m ∷ older)) told) (stands_stay n newer older m t h told.2 e)
  where
    go : (o : Option Standing) → AreStandings o (after n (newer ++ (m ∷ older))) → stands_at (newer ++ (m ∷ older)) t ≡ Some h → at_tick t o (stands_at (newer ++ (m ∷ older)) t) ≡ Some h
    go None later ih = ih
    go (Some p) later ih =
        let at = (later p refl).1 in
        let le = (within n (newer ++ (m ∷ older)) told.2 t h ih).1 in
        rw (ne_eqb p.tick t (λ q. omega (arith, at, le))) ih

-- a deed that ends a transaction leaves it gone
ended_gone : (l : Ledger) (ts : List Transaction) (h g : ℕ) (t : Transaction) → IsSound l → found l.active h ≡ Some t → h ≡ g → (found (without ts h) g ≡ None) × (g ≤ l.clock)
ended_gone l ts h g t s f e =
    let b = well_formed_found s h t f in
    (subst (λ x. found (without ts h) x ≡ None) e (none_without ts h), omega (arith, b.0.drawn, b.1))

ends_made : (g : ℕ) (l m : Ledger) (d : Deed) → IsSound l → Makes l d m → is_end_of g d ≡ true → IsGone g m
ends_made g l m d s resting e = cc
ends_made g l m d s (beginning few more) e = cc
ends_made g l m d s (reading how t f inside room) e = cc
ends_made g l m d s (setting t f upd inside room) e = cc
ends_made g l m d s (committing {h = h} t f upd none_stale more room) e =
    let x = ended_gone l l.active h g t s f (eqb-true h g e) in
    (subst (λ y. found (without l.active y) g ≡ None) (sym (found_start l.active h t f)) x.0, omega (arith, x.1))
ends_made g l m d s (ending {h = h} t f) e = ended_gone l l.active h g t s f (eqb-true h g e)

ends_gone : (g : ℕ) {l m : Ledger} {d : Deed} → IsSound l → Course l d m → is_end_of g d ≡ true → IsGone g m
ends_gone g {l = l} {m = m} {d = d} s (course as_is makes) e = ends_made g l m d s makes e
ends_gone g {l = l} {m = m} {d = d} s (course after_reclaim makes) e = ends_made g (reclaimed l) m d (sound_reclaimed l s) makes e

pub time : TimeLaw
time n ms told newer between older e b g h s t parts ended began first second =
    let told' : IsTold n (newer ++ (b ∷ (between ++ (e ∷ older)))) = subst (IsTold n) parts told in
    let told-b = told_older n newer (b ∷ (between ++ (e ∷ older))) told' in
    let told-e = told_older n between (e ∷ older) told-b.2 in
    let gone : IsGone g (after n (e ∷ older)) = ends_gone g (sound (reached n older)) (course_told n e older told-e) ended in
    let at_b : (after n (between ++ (e ∷ older))).clock + 1 ≡ h = begins_next (course_told n b (between ++ (e ∷ older)) told-b) h began in
    let front : List Made = newer ++ (b ∷ between) in
    let whole : ms ≡ front ++ (e ∷ older) = parts ∙ sym (append_assoc newer (b ∷ between) (e ∷ older)) in
    let before = stood_before n front (e ∷ older) g s (subst (IsTold n) whole told) gone (subst (λ xs. stands_at xs s ≡ Some g) whole first) in
    let le = (within n (e ∷ older) told-e s g before).1 in
    let up = clock_newer n between (e ∷ older) told-b.2 in
    let late = stands_late n ms told t h second in
    omega (arith, le, up, late, at_b)
