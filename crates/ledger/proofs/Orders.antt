-- Every ledger that calls lead to is orderly, and what follows.
use Rattle.std.proofs.Common.{◌≡◌, ℕ, ◌<◌, ◌≤◌, ◌⊎◌, false, ltb, List, [], ◌∷◌, ◌++◌, Some, Ok, Err, Result, ⊎_elim, sym, refl, ap, ◌∙◌, subst, arith}
use Rattle.std.proofs.lemmas.Bool.{le-ltb}
use Rattle.std.specs.List.{AllByRecursion}
use Rattle.ledger.specs.declared.Fault.{Fault}
use Rattle.ledger.specs.declared.Call.{Call}
use Rattle.ledger.specs.Ledger.{Limits, Transaction, Version, Ledger, found, is_reader}
use Rattle.ledger.specs.Calls.{Outcome, Effect, step, outcome, effect_of, reclaimed}
use Rattle.ledger.specs.Reach.{IsReached, new, next}
use Rattle.ledger.specs.History.{Made, Deed, deed, deed_of, after, IsTold}
use Rattle.ledger.specs.Orderly.{IsWellFormed, IsSound, IsDated, IsOrderly}
use Rattle.ledger.specs.Laws.{OrderLaw, DeathLaw, RefusalLaw, IdleLaw, idle_answer}
use Rattle.ledger.proofs.Actives.{all_found}
use Rattle.ledger.proofs.SoundActives.{sound_reclaimed, sound_made}
use Rattle.ledger.proofs.DatedVersions.{dated_reclaimed, dated_made}
use Rattle.ledger.proofs.SafeReclaims.{safe_reclaimed, safe_made}
use Rattle.ledger.proofs.Deaths.{dead_later, ages}
use Rattle.ledger.proofs.Steps.{Makes, Course, step_keeps, course_of}

pub order_reclaimed : (l : Ledger) → IsOrderly l → IsOrderly (reclaimed l)
order_reclaimed l o = record { sound = sound_reclaimed l o.sound; dated = dated_reclaimed l o.dated; safe = safe_reclaimed l o.safe }

order_made : (l m : Ledger) (d : Deed) → IsOrderly l → Makes l d m → IsOrderly m
order_made l m d o s = record { sound = sound_made l m d o.sound s; dated = dated_made l m d o.sound o.dated s; safe = safe_made l m d o.safe s }

pub order : {l : Ledger} → IsReached l → IsOrderly l
order (new n) = record {
  sound = record { fine = tt; apart = tt; few = omega arith };
  dated = record { ticks = omega arith; above_zero = tt; stamps = tt; keys = tt; falling = tt; strict = tt; unlike = tt };
  safe = record { removed = tt; cells = omega arith; trims = tt; trimmed_by = omega arith };
}
order (next {l = l} c b r) = step_keeps IsOrderly order_reclaimed order_made (order r) (course_of l c b)

pub orderly : OrderLaw
orderly l r = order r

pub sound : {l : Ledger} → IsReached l → IsSound l
sound r = (order r).sound

pub dated : {l : Ledger} → IsReached l → IsDated l
dated r = (order r).dated

pub dead_stays : DeathLaw
dead_stays l r c b v e = dead_later l (step l c b).ledger (ages (course_of l c b)) v e

-- a history leads from a new ledger to the ledger after it
pub reached : (n : Limits) (ms : List Made) → IsReached (after n ms)
reached n [] = new n
reached n (m ∷ ms) = next m.call m.given (reached n ms)

-- Histories: what is told up to now was told before, and each call has its course

pub told_older : (n : Limits) (newer ms : List Made) → IsTold n (newer ++ ms) → IsTold n ms
told_older n [] ms t = t
told_older n (m ∷ newer) ms t = told_older n newer ms t.2

pub course_told : (n : Limits) (m : Made) (ms : List Made) → IsTold n (m ∷ ms) → Course (after n ms) (deed m) (after n (m ∷ ms))
course_told n m ms t =
    let l = after n ms in
    let o = step l m.call m.given in
    subst (λ b. Course l (deed_of m.call m.answer b) o.ledger) (sym t.1) (subst (λ a. Course l (deed_of m.call a o.buffer) o.ledger) (sym t.0) (course_of l m.call m.given))

no_active : (n : Limits) (c : ℕ) (ts : List Transaction) → c ≤ 0 → AllByRecursion (IsWellFormed n c) ts → ts ≡ []
no_active n c [] z a = refl
no_active n c (t ∷ ts) z a = absurd (omega (arith, a.0.above_zero, a.0.drawn))

no_versions : (c : ℕ) (vs : List Version) → c ≤ 0 → AllByRecursion (λ v. 0 < v.stamp) vs → AllByRecursion (λ v. v.stamp ≤ c) vs → vs ≡ []
no_versions c [] z a b = refl
no_versions c (v ∷ vs) z a b = absurd (omega (arith, a.0, b.0))

-- without a tick nothing begins and nothing is committed
pub idle : {l : Ledger} → IsReached l → l.limits.last ≡ 0 → (l.active ≡ []) × (l.versions ≡ []) × (l.clock ≡ 0)
idle {l = l} r z =
    let s = sound r in
    let d = dated r in
    let c : l.clock ≤ 0 = omega (arith, d.ticks) in
    (no_active l.limits l.clock l.active c s.fine, no_versions l.clock l.versions c d.above_zero d.stamps, omega arith)

-- What a ledger without ticks answers

-- the ledger, were its clock at 0, without a tick, a transaction or a version
abbrev emptied : Ledger → Ledger
emptied l = record l { limits = record l.limits { last = 0 }; clock = 0; active = []; versions = [] }

is_emptied : (l : Ledger) → l.limits.last ≡ 0 → l.clock ≡ 0 → l.active ≡ [] → l.versions ≡ [] → emptied l ≡ l
is_emptied l z k a v =
    let mk : ℕ → ℕ → List Transaction → List Version → Ledger = λ last clock ts vs. record l { limits = record l.limits { last = last }; clock = clock; active = ts; versions = vs } in
    sym (ap (λ n. mk n l.clock l.active l.versions) z ∙ ap (λ n. mk 0 n l.active l.versions) k ∙ ap (λ ts. mk 0 0 ts l.versions) a ∙ ap (mk 0 0 []) v)

abbrev Idles : Call → List ℕ → Outcome → Type 0
Idles c b o = (o.answer ≡ idle_answer c) × (o.buffer ≡ b) × (o.ledger.active ≡ []) × (o.ledger.versions ≡ [])

idle_step : (l : Ledger) (c : Call) (b : List ℕ) → Idles c b (step (emptied l) c b)
idle_step l Call.Reclaim b = (refl, refl, refl, refl)
idle_step l _ b = (refl, refl, refl, refl)

pub idles : IdleLaw
idles l r z c b = let i = idle r z in subst (λ m. Idles c b (step m c b)) (is_emptied l z i.2 i.0 i.1) (idle_step l c b)

-- Refusals

refusal : (l : Ledger) (b : List ℕ) (r : Result Effect Fault) (f : Fault) → (outcome l b r).answer ≡ Err f → ((outcome l b r).ledger ≡ l) × ((outcome l b r).buffer ≡ b)
refusal l b (Ok e) f q = cc
refusal l b (Err g) f q = (refl, refl)

pub refusals : RefusalLaw
refusals l c b f e = refusal l b (effect_of l c b) f e

-- Trims

-- A trim hides no stale read: a stamp that was kept, or set to 0 below the tick trimmed at, is above a start as it was
pub trim_hides_nothing : {l : Ledger} → IsReached l → (h : ℕ) (t : Transaction) → found l.active h ≡ Some t → is_reader t.kind ≡ false → (stamp kept : ℕ) → (kept ≡ stamp) ⊎ ((kept ≡ 0) × (stamp < l.trimmed_at)) → (ltb t.start kept ≡ ltb t.start stamp) × (t.start < stamp → kept ≡ stamp)
trim_hides_nothing {l = l} r h t f upd stamp kept why =
    let le = (all_found (λ u. is_reader u.kind ≡ false → l.trimmed_at ≤ u.start) l.active h t (order r).safe.trims f).0 upd in
    ⊎_elim (λ same. (ap (ltb t.start) same, λ lt. same))
    (λ gone. (le-ltb t.start kept (omega (arith, gone.0)) ∙ sym (le-ltb t.start stamp (omega (arith, gone.1))), λ lt. omega (arith, gone.1)))
    why
