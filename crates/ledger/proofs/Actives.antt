-- The active transactions: looking one up, changing one, taking one out, and their least start.
use Rattle.std.proofs.Common.{◌≡◌, ℕ, ◌≤◌, min, Bool, true, false, cond, not, eqb, ◌⊎◌, List, [], ◌∷◌, Some, None, filter, Option, sym, refl, ap, ◌∙◌, subst, inl, inr, arith}
use Rattle.std.specs.List.{AllByRecursion}
use Rattle.std.proofs.ByRecursion.{All-weaker}
use Rattle.std.proofs.lemmas.Bool.{eqb-true, eqb-false, cond_both}
use Rattle.ledger.specs.declared.Kind.{Kind}
use Rattle.ledger.specs.declared.Call.{Call}
use Rattle.ledger.specs.Ledger.{Transaction, found, least_start}
use Rattle.ledger.specs.Calls.{without, changed, joins, joined, having_made}
use Rattle.ledger.specs.Orderly.{AreApart}

-- a change that keeps a transaction's handle and its kind
pub record KeepsIdentity (f : Transaction → Transaction) : Type 0 where
  pub start : (t : Transaction) → (f t).start ≡ t.start
  pub kind : (t : Transaction) → (f t).kind ≡ t.kind

abbrev pub change : ℕ → (Transaction → Transaction) → Transaction → Transaction
change h f u = cond (eqb u.start h) (f u) u

pub change_keeps : (h : ℕ) (f : Transaction → Transaction) → KeepsIdentity f → KeepsIdentity (change h f)
change_keeps h f k = record {
  start = λ u. cond_both (eqb u.start h) (f u) u (λ x. x.start ≡ u.start) (λ _. k.start u) (λ _. refl);
  kind = λ u. cond_both (eqb u.start h) (f u) u (λ x. x.kind ≡ u.kind) (λ _. k.kind u) (λ _. refl);
}

joined_keeps : (k n : ℕ) → KeepsIdentity (λ t. joined t k n)
joined_keeps k n = record {
  start = λ t. cond_both (joins t n) _ t (λ u. u.start ≡ t.start) (λ _. refl) (λ _. refl);
  kind = λ t. cond_both (joins t n) _ t (λ u. u.kind ≡ t.kind) (λ _. refl) (λ _. refl);
}

-- so is what a call makes of its transaction
pub call_keeps : (c : Call) → KeepsIdentity (λ t. having_made t c)
call_keeps (Call.Read h k n) = joined_keeps k n
call_keeps (Call.Total h k n s) = joined_keeps k n
call_keeps _ = record { start = λ t. refl; kind = λ t. refl }

pub joined_writes : (t : Transaction) (k n : ℕ) → (joined t k n).writes ≡ t.writes
joined_writes t k n = cond_both (joins t n) _ t (λ u. u.writes ≡ t.writes) (λ _. refl) (λ _. refl)

pub some_same : {X : Type 0} (x y : X) (o : Option X) → o ≡ Some x → o ≡ Some y → x ≡ y
some_same x y o p q = cc

pub never : {P : Type 0} {X : Type 0} (x : X) (o : Option X) → o ≡ None → o ≡ Some x → P
never x o p q = cc

-- what holds of each holds of the one that is found
pub all_found : (P : Transaction → Type 0) (ts : List Transaction) (h : ℕ) (t : Transaction) → AllByRecursion P ts → found ts h ≡ Some t → P t × (t.start ≡ h)
all_found P [] h t a e = never t None refl e
all_found P (u ∷ us) h t a e = go (eqb u.start h) refl e (all_found P us h t a.1)
  where
    go : (b : Bool) → eqb u.start h ≡ b → cond b (Some u) (found us h) ≡ Some t → (found us h ≡ Some t → P t × (t.start ≡ h)) → P t × (t.start ≡ h)
    go true d e' later = let i : u ≡ t = cc in (subst P i a.0, ap (λ x. x.start) (sym i) ∙ eqb-true _ _ d)
    go false d e' later = later e'

every : {X : Type 0} (xs : List X) → AllByRecursion (λ _. Unit {0}) xs
every [] = tt
every (x ∷ xs) = (tt, every xs)

pub found_start : (ts : List Transaction) (h : ℕ) (t : Transaction) → found ts h ≡ Some t → t.start ≡ h
found_start ts h t e = (all_found (λ _. Unit {0}) ts h t (every ts) e).1

-- the look-up after one is taken out
pub found_without : (ts : List Transaction) (g h : ℕ) (t : Transaction) → found (without ts g) h ≡ Some t → (found ts h ≡ Some t) × (h ≡ g → ⊥)
found_without [] g h t e = never t None refl e
found_without (u ∷ ts) g h t e = go (eqb u.start g) (eqb u.start h) refl refl e (found_without ts g h t)
  where
    go : (a b : Bool) → eqb u.start g ≡ a → eqb u.start h ≡ b → found (cond (not a) (u ∷ without ts g) (without ts g)) h ≡ Some t → (found (without ts g) h ≡ Some t → (found ts h ≡ Some t) × (h ≡ g → ⊥)) → (cond b (Some u) (found ts h) ≡ Some t) × (h ≡ g → ⊥)
    go true true d f q ih = let r = ih q in absurd (r.1 (sym (eqb-true u.start h f) ∙ eqb-true u.start g d))
    go true false d f q ih = ih q
    go false true d f q ih = (rw f at q, λ s. eqb-false u.start g d (eqb-true u.start h f ∙ s))
    go false false d f q ih = ih (rw f at q)

-- found under h after the one under g is changed: the changed one, or another that was there
abbrev pub FoundAfter : ℕ → (Transaction → Transaction) → ℕ → Option Transaction → Transaction → Type 0
FoundAfter g f h o t = ((h ≡ g) × ((u : Transaction) × (o ≡ Some u) × (t ≡ f u))) ⊎ ((h ≡ g → ⊥) × (o ≡ Some t))

pub found_changed : (ts : List Transaction) (g : ℕ) (f : Transaction → Transaction) → KeepsIdentity f → (h : ℕ) (t : Transaction) → found (changed ts g f) h ≡ Some t → FoundAfter g f h (found ts h) t
found_changed [] g f k h t e = never t None refl e
found_changed (x ∷ ts) g f k h t e = go (eqb x.start g) (eqb x.start h) refl refl e (found_changed ts g f k h t)
  where
    go : (a b : Bool) → eqb x.start g ≡ a → eqb x.start h ≡ b → found (cond a (f x) x ∷ changed ts g f) h ≡ Some t → (found (changed ts g f) h ≡ Some t → FoundAfter g f h (found ts h) t) → FoundAfter g f h (cond b (Some x) (found ts h)) t
    go true true d e' q ih =
        let here : eqb (f x).start h ≡ true = ap (λ s. eqb s h) (k.start x) ∙ e' in
        let q' : Some (f x) ≡ Some t = rw here at q in
        inl (sym (eqb-true x.start h e') ∙ eqb-true x.start g d, (x, refl, some_same t (f x) (Some (f x)) q' refl))
    go true false d e' q ih = let gone : eqb (f x).start h ≡ false = ap (λ s. eqb s h) (k.start x) ∙ e' in ih (rw gone at q)
    go false true d e' q ih = inr (λ s. eqb-false x.start g d (eqb-true x.start h e' ∙ s), rw e' at q)
    go false false d e' q ih = ih (rw e' at q)

-- one that is not found is not found after a change, nor after one is taken out
pub none_changed : (ts : List Transaction) (g : ℕ) (f : Transaction → Transaction) → KeepsIdentity f → (h : ℕ) → found ts h ≡ None → found (changed ts g f) h ≡ None
none_changed [] g f k h e = refl
none_changed (x ∷ ts) g f k h e = go (eqb x.start h) refl e (none_changed ts g f k h)
  where
    go : (b : Bool) → eqb x.start h ≡ b → cond b (Some x) (found ts h) ≡ None → (found ts h ≡ None → found (changed ts g f) h ≡ None) → found (change g f x ∷ changed ts g f) h ≡ None
    go true d q ih = never x (Some x) q refl
    go false d q ih = let other : eqb (change g f x).start h ≡ false = ap (λ s. eqb s h) ((change_keeps g f k).start x) ∙ d in rw other (ih q)

pub none_kept : (p : Transaction → Bool) (ts : List Transaction) (h : ℕ) → found ts h ≡ None → found (filter p ts) h ≡ None
none_kept p [] h e = refl
none_kept p (x ∷ ts) h e = go (eqb x.start h) refl e (none_kept p ts h)
  where
    go : (b : Bool) → eqb x.start h ≡ b → cond b (Some x) (found ts h) ≡ None → (found ts h ≡ None → found (filter p ts) h ≡ None) → found (cond (p x) (x ∷ filter p ts) (filter p ts)) h ≡ None
    go true d q ih = never x (Some x) q refl
    go false d q ih = cond_both (p x) (x ∷ filter p ts) (filter p ts) (λ us. found us h ≡ None) (λ _. rw d (ih q)) (λ _. ih q)

-- one that is taken out is not found
pub none_without : (ts : List Transaction) (h : ℕ) → found (without ts h) h ≡ None
none_without [] h = refl
none_without (x ∷ ts) h = go (eqb x.start h) refl (none_without ts h)
  where
    go : (b : Bool) → eqb x.start h ≡ b → found (without ts h) h ≡ None → found (cond (not b) (x ∷ without ts h) (without ts h)) h ≡ None
    go true d ih = ih
    go false d ih = rw d ih

-- The least start

-- at a later tick
pub least_later : (p : Kind → Bool) (n m : ℕ) (ts : List Transaction) → n ≤ m → least_start p n ts ≤ least_start p m ts
least_later p n m [] le = le
least_later p n m (t ∷ ts) le = go (p t.kind) (least_later p n m ts le)
  where
    go : (b : Bool) → least_start p n ts ≤ least_start p m ts → cond b (min t.start (least_start p n ts)) (least_start p n ts) ≤ cond b (min t.start (least_start p m ts)) (least_start p m ts)
    go true ih = omega arith
    go false ih = ih

-- of fewer
pub least_kept : (p : Kind → Bool) (q : Transaction → Bool) (n : ℕ) (ts : List Transaction) → least_start p n ts ≤ least_start p n (filter q ts)
least_kept p q n [] = omega arith
least_kept p q n (t ∷ ts) = go (q t) (p t.kind) refl (least_kept p q n ts)
  where
    go : (a b : Bool) → p t.kind ≡ b → least_start p n ts ≤ least_start p n (filter q ts) → cond b (min t.start (least_start p n ts)) (least_start p n ts) ≤ least_start p n (cond a (t ∷ filter q ts) (filter q ts))
    go true true e ih = rw e (omega arith)
    go true false e ih = rw e ih
    go false true e ih = omega arith
    go false false e ih = ih

pub least_le : (p : Kind → Bool) (n : ℕ) (ts : List Transaction) → least_start p n ts ≤ n
least_le p n [] = omega arith
least_le p n (t ∷ ts) = let ih = least_le p n ts in cond_both (p t.kind) (min t.start (least_start p n ts)) (least_start p n ts) (λ m. m ≤ n) (λ _. omega arith) (λ _. ih)

-- it is at most each start of its kind
pub least_each : (p : Kind → Bool) (n : ℕ) (ts : List Transaction) → AllByRecursion (λ t. p t.kind ≡ true → least_start p n ts ≤ t.start) ts
least_each p n [] = tt
least_each p n (t ∷ ts) = (λ e. rw e (omega arith), All-weaker _ _ (λ u h e. let le = h e in cond_both (p t.kind) (min t.start (least_start p n ts)) (least_start p n ts) (λ m. m ≤ u.start) (λ _. omega arith) (λ _. omega arith)) ts (least_each p n ts))

pub least_changed : (p : Kind → Bool) (n : ℕ) (ts : List Transaction) (h : ℕ) (f : Transaction → Transaction) → KeepsIdentity f → least_start p n (changed ts h f) ≡ least_start p n ts
least_changed p n [] h f k = refl
least_changed p n (t ∷ ts) h f k =
    let c = change_keeps h f k in
    let ih = least_changed p n ts h f k in
    rw (c.kind t, c.start t, ih)

-- What holds of each active transaction

-- what depends on handle and kind alone is kept by a change
pub all_changed_same : (Q : ℕ → Kind → Type 0) (ts : List Transaction) (h : ℕ) (f : Transaction → Transaction) → KeepsIdentity f → AllByRecursion (λ t. Q t.start t.kind) ts → AllByRecursion (λ t. Q t.start t.kind) (changed ts h f)
all_changed_same Q [] h f k a = tt
all_changed_same Q (t ∷ ts) h f k a =
    let c = change_keeps h f k in
    (subst (λ x. Q (change h f t).start x) (sym (c.kind t)) (subst (λ x. Q x t.kind) (sym (c.start t)) a.0), all_changed_same Q ts h f k a.1)

all_others : (P : Transaction → Type 0) (ts : List Transaction) (h : ℕ) (f : Transaction → Transaction) → AllByRecursion (λ u. u.start ≡ h → ⊥) ts → AllByRecursion P ts → AllByRecursion P (changed ts h f)
all_others P [] h f ne a = tt
all_others P (t ∷ ts) h f ne a = (cond_both (eqb t.start h) (f t) t P (λ e. absurd (ne.0 (eqb-true _ _ e))) (λ _. a.0), all_others P ts h f ne.1 a.1)

-- what holds of each, and of the changed one
pub all_changed : (P : Transaction → Type 0) (ts : List Transaction) (h : ℕ) (f : Transaction → Transaction) (t : Transaction) → AreApart ts → found ts h ≡ Some t → AllByRecursion P ts → P (f t) → AllByRecursion P (changed ts h f)
all_changed P [] h f t apart e a p = tt
all_changed P (x ∷ ts) h f t apart e a p = go (eqb x.start h) refl e (λ q. all_changed P ts h f t apart.1 q a.1 p)
  where
    go : (b : Bool) → eqb x.start h ≡ b → cond b (Some x) (found ts h) ≡ Some t → (found ts h ≡ Some t → AllByRecursion P (changed ts h f)) → P (cond b (f x) x) × AllByRecursion P (changed ts h f)
    go true d q later =
        let i = some_same t x (Some x) q refl in
        (subst (λ y. P (f y)) i p, all_others P ts h f (subst (λ s. AllByRecursion (λ u. u.start ≡ s → ⊥) ts) (eqb-true _ _ d) apart.0) a.1)
    go false d q later = (a.0, later q)

pub all_two : {X : Type 0} (P Q R : X → Type 0) → ((x : X) → P x → Q x → R x) → (xs : List X) → AllByRecursion P xs → AllByRecursion Q xs → AllByRecursion R xs
all_two P Q R f [] a b = tt
all_two P Q R f (x ∷ xs) a b = (f x a.0 b.0, all_two P Q R f xs a.1 b.1)
