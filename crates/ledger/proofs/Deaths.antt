-- Dead versions: what a reclaim leaves of the versions, and how many there are.
use Rattle.std.proofs.Common.{◌≡◌, ℕ, suc, ◌+◌, ◌≤◌, Bool, true, false, cond, not, ◌&&◌, List, [], ◌∷◌, ◌++◌, map, length, filter, sym, refl, ap, ◌∙◌, arith}
use Rattle.std.proofs.lemmas.List.{map-append, append_assoc}
use mathlib.Core.Path.{fun_ext}
use Rattle.std.specs.List.{AllByRecursion}
use Rattle.ledger.specs.declared.Call.{Call}
use Rattle.ledger.specs.Ledger.{Version, Ledger, Outlook, outlook, unseen, dead, present_count, dead_count, live_count}
use Rattle.ledger.specs.Calls.{opened, reclaimed, stamped}
use Rattle.ledger.specs.History.{Deed}
use Rattle.ledger.proofs.Actives.{call_keeps}
use Rattle.ledger.proofs.Steps.{Makes, resting, beginning, reading, setting, committing, ending, Course, step_keeps}
use Rattle.ledger.proofs.Presence.{bare, bare_more}
use Rattle.ledger.proofs.Outlooks.{Narrows, narrows_same, narrows_twice, outlook_opened, outlook_ended, outlook_changed, outlook_installed, unseen_same, unseen_later}

abbrev pub clear : Outlook → List Version → Version → Version
clear o all v = record { key = v.key; stamp = v.stamp; value = v.value; present = v.present && not (unseen o all v) }

-- the versions after a reclaim by an outlook
abbrev pub swept : Outlook → List Version → List Version
swept o vs = map (clear o vs) vs

bare_clear : (o : Outlook) (all vs : List Version) → bare (map (clear o all) vs) ≡ bare vs
bare_clear o all [] = refl
bare_clear o all (v ∷ vs) = let u : Version = record { key = v.key; stamp = v.stamp; value = v.value; present = false } in ap (λ us. u ∷ us) (bare_clear o all vs)

-- a reclaim does not touch what does not look at what is present
pub bare_reclaimed : (l : Ledger) → bare (reclaimed l).versions ≡ bare l.versions
bare_reclaimed l = bare_clear (outlook l) l.versions l.versions

pub bare_swept : (o : Outlook) (vs us : List Version) → swept o vs ≡ swept o us → bare vs ≡ bare us
bare_swept o vs us e = sym (bare_clear o vs vs) ∙ ap bare e ∙ bare_clear o us us

-- to clear twice is to clear the second time, where that clears more
clear_twice : (p s z : Bool) → (s ≡ true → z ≡ true) → ((p && not s) && not z) ≡ (p && not z)
clear_twice false s z h = refl
clear_twice true false z h = refl
clear_twice true true z h = rw (h refl)

swept_later : (o p : Outlook) (all all' : List Version) → ((v : Version) → unseen o all v ≡ true → unseen p all' v ≡ true) → (vs : List Version) → map (clear p all') (map (clear o all) vs) ≡ map (clear p all') vs
swept_later o p all all' more [] = refl
swept_later o p all all' more (v ∷ vs) =
    let one : clear p all' (clear o all v) ≡ clear p all' v = ap (λ b. record { key = v.key; stamp = v.stamp; value = v.value; present = b }) (clear_twice v.present (unseen o all v) (unseen p all' v) (more v)) in
    rw (one, swept_later o p all all' more vs)

-- versions that a reclaim makes equal are made equal by each later one, with new versions before them
pub swept_more : (o p : Outlook) (news vs us : List Version) → Narrows o p → swept o vs ≡ swept o us → swept p (news ++ vs) ≡ swept p (news ++ us)
swept_more o p news vs us n e =
    let b = bare_swept o vs us e in
    let C = clear p (news ++ vs) in
    let D = clear p (news ++ us) in
    let same : (v : Version) → C v ≡ D v = λ v. ap (λ s. record { key = v.key; stamp = v.stamp; value = v.value; present = v.present && not s }) (unseen_same (news ++ vs) (news ++ us) (bare_more vs us b news) p v) in
    map-append C news vs
    ∙ ap (λ xs. map C news ++ xs) (sym (swept_later o p vs (news ++ vs) (λ v. unseen_later news vs v n) vs) ∙ ap (map C) e ∙ ap (λ f. map f (swept o us)) (fun_ext same) ∙ swept_later o p us (news ++ us) (λ v. unseen_later news us v n) us)
    ∙ ap (λ xs. xs ++ map D us) (ap (λ f. map f news) (fun_ext same))
    ∙ sym (map-append D news us)

pub swept_again : (o : Outlook) (vs : List Version) → swept o (swept o vs) ≡ swept o vs
swept_again o vs =
    let s = unseen_same (swept o vs) vs (bare_clear o vs vs) in
    swept_later o o vs (swept o vs) (λ v e. s o v ∙ e) vs ∙ ap (λ f. map f vs) (fun_ext (λ v. ap (λ b. record { key = v.key; stamp = v.stamp; value = v.value; present = v.present && not b }) (s o v)))

-- A ledger grows older: new versions come before those that were there, and its outlook narrows

pub record Ages (l m : Ledger) : Type 0 where
  pub news : List Version
  pub bares : bare m.versions ≡ bare (news ++ l.versions)
  pub narrows : Narrows (outlook l) (outlook m)

ages_alone : (l m : Ledger) → bare m.versions ≡ bare l.versions → Narrows (outlook l) (outlook m) → Ages l m
ages_alone l m e n = record { news = []; bares = e; narrows = n }

ages_twice : (l k m : Ledger) → Ages l k → Ages k m → Ages l m
ages_twice l k m a b = record {
  news = b.news ++ a.news;
  bares = b.bares ∙ bare_more k.versions (a.news ++ l.versions) a.bares b.news ∙ ap bare (sym (append_assoc b.news a.news l.versions));
  narrows = narrows_twice a.narrows b.narrows;
}

pub dead_later : (l m : Ledger) → Ages l m → (v : Version) → dead l v ≡ true → dead m v ≡ true
dead_later l m a v e = unseen_same m.versions (a.news ++ l.versions) a.bares (outlook m) v ∙ unseen_later a.news l.versions v a.narrows e

-- a reclaim kills nothing
pub dead_reclaimed : (l : Ledger) (v : Version) → dead (reclaimed l) v ≡ dead l v
dead_reclaimed l v = unseen_same (reclaimed l).versions l.versions (bare_reclaimed l) (outlook l) v

ages_reclaimed : (l : Ledger) → Ages l (reclaimed l)
ages_reclaimed l = ages_alone l (reclaimed l) (bare_reclaimed l) (narrows_same refl)

pub ages_made : (l m : Ledger) (d : Deed) → Makes l d m → Ages l m
ages_made l m d resting = ages_alone l l refl (narrows_same refl)
ages_made l m d (beginning {kind = kind} few more) = ages_alone l (opened l kind) refl (outlook_opened l kind)
ages_made l m d (reading {h = h} {k = k} {n = n} how t f inside room) = ages_alone l m refl (narrows_same (sym (outlook_changed l h _ (call_keeps (Call.Read h k n)))))
ages_made l m d (setting {h = h} {k = k} {x = x} t f upd inside room) = ages_alone l m refl (narrows_same (sym (outlook_changed l h _ (call_keeps (Call.Write h k x)))))
ages_made l m d (committing t f upd clear more room) = record { news = stamped (l.clock + 1) t.writes; bares = refl; narrows = outlook_installed l t }
ages_made l m d (ending {h = h} t f) = ages_alone l m refl (outlook_ended l h)

pub ages : {l m : Ledger} {d : Deed} → Course l d m → Ages l m
ages {l = l} c = step_keeps (Ages l) (λ k a. ages_twice l k (reclaimed k) a (ages_reclaimed k)) (λ k m d a s. ages_twice l k m a (ages_made k m d s)) (ages_alone l l refl (narrows_same refl)) c

-- Counting: where every removed version is dead, the present ones are the live ones and those dead that are present

count_parts : (d : Version → Bool) (us : List Version) → AllByRecursion (λ v. v.present ≡ false → d v ≡ true) us → length (filter (λ v. v.present) us) ≡ length (filter (λ v. not (d v)) us) + length (filter (λ v. v.present && d v) us)
count_parts d [] a = omega arith
count_parts d (v ∷ us) a = go v.present (d v) a.0 (count_parts d us a.1)
  where
    go : (p s : Bool) → (p ≡ false → s ≡ true) → length (filter (λ u. u.present) us) ≡ length (filter (λ u. not (d u)) us) + length (filter (λ u. u.present && d u) us) → length (cond p (v ∷ filter (λ u. u.present) us) (filter (λ u. u.present) us)) ≡ length (cond (not s) (v ∷ filter (λ u. not (d u)) us) (filter (λ u. not (d u)) us)) + length (cond (p && s) (v ∷ filter (λ u. u.present && d u) us) (filter (λ u. u.present && d u) us))
    go true true q ih = omega arith
    go true false q ih = omega arith
    go false true q ih = omega arith
    go false false q ih = let z : ◌≡◌ {A = ℕ} 0 1 = let e = q refl in cc in absurd (omega arith)

pub live_and_dead : (l : Ledger) → AllByRecursion (λ v. v.present ≡ false → dead l v ≡ true) l.versions → present_count l ≡ live_count l + dead_count l
live_and_dead l a = count_parts (dead l) l.versions a

-- a reclaim leaves present what is live
count_cleared : (o : Outlook) (all us : List Version) → AllByRecursion (λ v. v.present ≡ false → unseen o all v ≡ true) us → length (filter (λ v. v.present) (map (clear o all) us)) ≡ length (filter (λ v. not (unseen o all v)) us)
count_cleared o all [] a = refl
count_cleared o all (v ∷ us) a = go v.present (unseen o all v) a.0 (count_cleared o all us a.1)
  where
    go : (p s : Bool) → (p ≡ false → s ≡ true) → length (filter (λ u. u.present) (map (clear o all) us)) ≡ length (filter (λ u. not (unseen o all u)) us) → length (cond (p && not s) (clear o all v ∷ filter (λ u. u.present) (map (clear o all) us)) (filter (λ u. u.present) (map (clear o all) us))) ≡ length (cond (not s) (v ∷ filter (λ u. not (unseen o all u)) us) (filter (λ u. not (unseen o all u)) us))
    go true true q ih = ih
    go true false q ih = ap suc ih
    go false true q ih = ih
    go false false q ih = let z : ◌≡◌ {A = ℕ} 0 1 = let e = q refl in cc in absurd (omega arith)

pub present_reclaimed : (l : Ledger) → AllByRecursion (λ v. v.present ≡ false → dead l v ≡ true) l.versions → present_count (reclaimed l) ≡ live_count l
present_reclaimed l a = count_cleared (outlook l) l.versions l.versions a

pub present_swept : (o : Outlook) (all vs : List Version) → length (filter (λ v. v.present) (map (clear o all) vs)) ≤ length (filter (λ v. v.present) vs)
present_swept o all [] = omega arith
present_swept o all (v ∷ vs) = go v.present (unseen o all v) (present_swept o all vs)
  where
    go : (p s : Bool) → length (filter (λ u. u.present) (map (clear o all) vs)) ≤ length (filter (λ u. u.present) vs) → length (cond (p && not s) (clear o all v ∷ filter (λ u. u.present) (map (clear o all) vs)) (filter (λ u. u.present) (map (clear o all) vs))) ≤ length (cond p (v ∷ filter (λ u. u.present) vs) (filter (λ u. u.present) vs))
    go true true ih = omega arith
    go true false ih = omega arith
    go false s ih = ih

-- after a reclaim nothing dead is present
none_dead : (o : Outlook) (all : List Version) (d : Version → Bool) → ((v : Version) → d v ≡ unseen o all v) → (us : List Version) → filter (λ v. v.present && d v) (map (clear o all) us) ≡ []
none_dead o all d e [] = refl
none_dead o all d e (v ∷ us) =
    let one : ((v.present && not (unseen o all v)) && d (clear o all v)) ≡ false = ap (λ s. (v.present && not (unseen o all v)) && s) (e (clear o all v)) ∙ both v.present (unseen o all v) in
    rw (one, none_dead o all d e us)
  where
    both : (p s : Bool) → ((p && not s) && s) ≡ false
    both true true = refl
    both true false = refl
    both false s = refl

pub dead_count_reclaimed : (l : Ledger) → dead_count (reclaimed l) ≡ 0
dead_count_reclaimed l = ap length (none_dead (outlook l) l.versions (dead (reclaimed l)) (dead_reclaimed l) l.versions)

-- what is present is left by a reclaim, or dead
count_left : (o : Outlook) (all us : List Version) → length (filter (λ v. v.present) us) ≡ length (filter (λ v. v.present) (map (clear o all) us)) + length (filter (λ v. v.present && unseen o all v) us)
count_left o all [] = omega arith
count_left o all (v ∷ us) = go v.present (unseen o all v) (count_left o all us)
  where
    go : (p s : Bool) → length (filter (λ u. u.present) us) ≡ length (filter (λ u. u.present) (map (clear o all) us)) + length (filter (λ u. u.present && unseen o all u) us) → length (cond p (v ∷ filter (λ u. u.present) us) (filter (λ u. u.present) us)) ≡ length (cond (p && not s) (clear o all v ∷ filter (λ u. u.present) (map (clear o all) us)) (filter (λ u. u.present) (map (clear o all) us))) + length (cond (p && s) (v ∷ filter (λ u. u.present && unseen o all u) us) (filter (λ u. u.present && unseen o all u) us))
    go true true ih = omega arith
    go true false ih = omega arith
    go false s ih = ih

pub left_present : (l : Ledger) → present_count l ≡ present_count (reclaimed l) + dead_count l
left_present l = count_left (outlook l) l.versions l.versions
