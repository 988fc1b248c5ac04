-- What the readers still look at, and which versions are dead by it. No other module looks into an outlook.
use Rattle.std.proofs.Common.{◌≡◌, ℕ, ◌+◌, ◌<◌, ◌≤◌, min, Bool, true, false, not, ◌&&◌, ◌||◌, eqb, ltb, List, [], ◌∷◌, ◌++◌, Some, sym, refl, ap, ◌∙◌, ⊎_elim, arith}
use Rattle.std.specs.List.{AllByRecursion}
use Rattle.std.proofs.lemmas.Bool.{lt-ltb, ltb-true, and_parts, and_from, or_cases, or_left, or_right, or_from, le-ltb, cond_both, eqb-true}
use Rattle.ledger.specs.declared.Kind.{Kind}
use Rattle.ledger.specs.Ledger.{Transaction, Version, Ledger, Outlook, moment_of, found, is_reader, least_start, outlook, unseen}
use Rattle.ledger.specs.Calls.{with_active, without, changed, opened, ended, installed}
use Rattle.ledger.proofs.Actives.{KeepsIdentity, all_found, least_later, least_kept, least_le, least_each, least_changed}
use Rattle.ledger.proofs.Presence.{bare}

-- the second outlook looks at no moment that the first does not
pub record Narrows (o p : Outlook) : Type 0 where
  pub least : o ≤ p

-- the outlook looks at a moment
pub record Looks (o : Outlook) (t : ℕ) : Type 0 where
  pub least : o ≤ t

pub narrows_same : {o p : Outlook} → o ≡ p → Narrows o p
narrows_same e = record { least = omega arith }

pub narrows_twice : {o p q : Outlook} → Narrows o p → Narrows p q → Narrows o q
narrows_twice a b = record { least = omega (arith, a.least, b.least) }

-- An outlook narrows as the ledger goes on

pub outlook_opened : (l : Ledger) (kind : Kind) → Narrows (outlook l) (outlook (opened l kind))
outlook_opened l kind =
    let later = least_later is_reader (l.clock + 1) (l.clock + 1 + 1) l.active (omega arith) in
    let le = least_le is_reader (l.clock + 1) l.active in
    record { least = cond_both (is_reader kind) (min (l.clock + 1) (least_start is_reader (l.clock + 1 + 1) l.active)) (least_start is_reader (l.clock + 1 + 1) l.active) (λ m. outlook l ≤ m) (λ _. omega arith) (λ _. omega arith) }

pub outlook_ended : (l : Ledger) (h : ℕ) → Narrows (outlook l) (outlook (ended l h))
outlook_ended l h = record { least = least_kept is_reader (λ t. not (eqb t.start h)) (l.clock + 1) l.active }

pub outlook_changed : (l : Ledger) (h : ℕ) (f : Transaction → Transaction) → KeepsIdentity f → outlook (with_active l (changed l.active h f)) ≡ outlook l
outlook_changed l h f k = least_changed is_reader (l.clock + 1) l.active h f k

pub outlook_installed : (l : Ledger) (t : Transaction) → Narrows (outlook l) (outlook (installed l t))
outlook_installed l t = record { least = omega (arith, least_kept is_reader (λ u. not (eqb u.start t.start)) (l.clock + 1) l.active, least_later is_reader (l.clock + 1) (l.clock + 1 + 1) (without l.active t.start) (omega arith)) }

-- A ledger looks at the moments of its active readers, and past its clock

pub looks_at_reader : (l : Ledger) (h : ℕ) (t : Transaction) → found l.active h ≡ Some t → is_reader t.kind ≡ true → Looks (outlook l) (moment_of t)
looks_at_reader l h t f r = record { least = (all_found (λ x. is_reader x.kind ≡ true → outlook l ≤ x.start) l.active h t (least_each is_reader (l.clock + 1) l.active) f).0 r }

pub looks_ahead : (l : Ledger) → Looks (outlook l) (l.clock + 1)
looks_ahead l = record { least = least_le is_reader (l.clock + 1) l.active }

-- Versions

unseen_bare : (o : Outlook) (vs : List Version) (v : Version) → unseen o (bare vs) v ≡ unseen o vs v
unseen_bare o [] v = refl
unseen_bare o (w ∷ vs) v = ap (λ b. (eqb w.key v.key && (ltb v.stamp w.stamp && ltb w.stamp o)) || b) (unseen_bare o vs v)

-- it does not depend on what is present
pub unseen_same : (vs us : List Version) → bare vs ≡ bare us → (o : Outlook) (v : Version) → unseen o vs v ≡ unseen o us v
unseen_same vs us e o v = sym (unseen_bare o vs v) ∙ ap (λ xs. unseen o xs v) e ∙ unseen_bare o us v

-- what is unseen stays so, with new versions before the others
pub unseen_later : (news vs : List Version) {o p : Outlook} (v : Version) → Narrows o p → unseen o vs v ≡ true → unseen p (news ++ vs) v ≡ true
unseen_later (w ∷ news) vs v n e = or_right _ _ (unseen_later news vs v n e)
unseen_later [] [] v n e = e
unseen_later [] (w ∷ vs) {o = o} {p = p} v n e = ⊎_elim first (λ r. or_right _ _ (unseen_later [] vs v n r)) (or_cases _ _ e)
  where
    first : (eqb w.key v.key && (ltb v.stamp w.stamp && ltb w.stamp o)) ≡ true → unseen p (w ∷ vs) v ≡ true
    first t =
        let a = eqb w.key v.key in
        let b = ltb v.stamp w.stamp in
        let x = and_parts a (b && ltb w.stamp o) t in
        let y = and_parts b (ltb w.stamp o) x.1 in
        or_left (a && (b && ltb w.stamp p)) (unseen p vs v) (and_from a (b && ltb w.stamp p) x.0 (and_from b (ltb w.stamp p) y.0 (let lt : w.stamp < p = omega (arith, ltb-true w.stamp o y.1, n.least) in lt-ltb w.stamp p lt)))

-- a version that is chosen at a moment looked at is seen: each newer one of its key is stamped at the moment or later
pub chosen_seen : {o : Outlook} {t : ℕ} → Looks o t → (v : Version) (vs : List Version) → AllByRecursion (λ w. w.key ≡ v.key → v.stamp < w.stamp → t ≤ w.stamp) vs → unseen o vs v ≡ false
chosen_seen k v [] a = refl
chosen_seen {o = o} {t = t} k v (w ∷ vs) a = or_from _ _ (one (eqb w.key v.key) (ltb v.stamp w.stamp) refl refl) (chosen_seen k v vs a.1)
  where
    one : (b c : Bool) → eqb w.key v.key ≡ b → ltb v.stamp w.stamp ≡ c → (b && (c && ltb w.stamp o)) ≡ false
    one true true d e = let le : o ≤ w.stamp = omega (arith, k.least, a.0 (eqb-true _ _ d) (ltb-true _ _ e)) in le-ltb w.stamp o le
    one true false d e = refl
    one false c d e = refl
