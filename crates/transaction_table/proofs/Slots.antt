-- What one record more, or one record changed, makes of the active transactions.
use Rattle.std.proofs.Common.{◌≡◌, ℕ, zero, suc, ◌+◌, ◌<◌, ◌≤◌, min, Bool, true, false, cond, not, ◌&&◌, eqb, leb, List, [], ◌∷◌, map, filter, length, get_or, set, Some, None, Option, sym, refl, ap, ◌∙◌, subst, arith}
use Rattle.std.proofs.lemmas.Bool.{ne_eqb, eq-eqb, eqb-true, cond_both, and_parts, true≢false, le-leb, lt-leb}
use Rattle.std.proofs.lemmas.Iterator.Adapters.{position_from-zero}
use Rattle.std.proofs.lemmas.Option.{get_or_from_slice_get, none-some}
use Rattle.std.specs.List.{AllByRecursion, slice_get, fold, position, position_from}
use Rattle.ledger.specs.Calls.{fresh, without, changed}
use Rattle.std.specs.Option.{is_some}
use Rattle.transaction_table.specs.Shuffle.{IsShuffle, keep, swap, join}
use Rattle.ledger.specs.Orderly.{AreApart}
use Rattle.transaction_table.proofs.Shuffles.{shuffle_refl}
use Rattle.ledger.specs.declared.TheConstants.{MAX_ACTIVE}
use Rattle.ledger.specs.declared.Kind.{Kind}
use Rattle.ledger.specs.declared.Kind.TheVariants.{Reader as Reads, Updater as Updates}
use Rattle.ledger.specs.Ledger.{Transaction, handle_of, found, least_start}
use Rattle.transaction_table.specs.declared.record.State.{State}
use Rattle.transaction_table.specs.declared.record.State.TheVariants.{Free, Reader, Updater}
use Rattle.transaction_table.specs.declared.record.Record.{Record}
use Rattle.transaction_table.specs.View.{taken, view, active_of}
use Rattle.transaction_table.specs.Slots.{is_of_kind, holds_kind, is_free, has_handle, free_record, new_record}
use Rattle.transaction_table.proofs.Searches.{passing, nowhere}

-- the record at i is taken, and has this handle
pub record IsHere (rs : List Record) (h i : ℕ) : Type 0 where
  pub at : Record
  pub reads : slice_get rs i ≡ Some at
  pub is_taken : taken at.state ≡ true
  pub has : handle_of (view at) ≡ h

active_free : (r : Record) (rs : List Record) → taken r.state ≡ false → active_of (r ∷ rs) ≡ active_of rs
active_free r rs e = rw e

active_taken : (r : Record) (rs : List Record) → taken r.state ≡ true → active_of (r ∷ rs) ≡ view r ∷ active_of rs
active_taken r rs e = rw e

-- a new record has the transaction that begins
pub new_view : (start : ℕ) (kind : Kind) → view (new_record start kind) ≡ fresh start kind
new_view start Reads = refl
new_view start Updates = refl

pub new_taken : (start : ℕ) (kind : Kind) → taken (new_record start kind).state ≡ true
new_taken start Reads = refl
new_taken start Updates = refl

-- a new transaction in a free place
pub slots_open : (rs : List Record) (i : ℕ) (at r : Record) → slice_get rs i ≡ Some at → taken at.state ≡ false → taken r.state ≡ true → IsShuffle (view r ∷ active_of rs) (active_of (set rs i r))
slots_open [] i at r e free on = cc
slots_open (u ∷ rs) zero at r e free on =
    let same : u ≡ at = cc in
    let off : taken u.state ≡ false = ap (λ x. taken x.state) same ∙ free in
    rw (active_free u rs off, active_taken r rs on) (shuffle_refl _)
slots_open (u ∷ rs) (suc i) at r e free on = go (taken u.state) (slots_open rs i at r e free on)
  where
    go : (b : Bool) → IsShuffle (view r ∷ active_of rs) (active_of (set rs i r)) → IsShuffle (view r ∷ cond b (view u ∷ active_of rs) (active_of rs)) (cond b (view u ∷ active_of (set rs i r)) (active_of (set rs i r)))
    go true ih = join swap (keep ih)
    go false ih = ih

-- what holds of each active transaction holds of the one in a place
slots_at : (P : Transaction → Type 0) (rs : List Record) (i : ℕ) (at : Record) → slice_get rs i ≡ Some at → taken at.state ≡ true → AllByRecursion P (active_of rs) → P (view at)
slots_at P [] i at e on a = cc
slots_at P (u ∷ rs) zero at e on a =
    let same : u ≡ at = cc in
    subst (λ x. P (view x)) same (subst (AllByRecursion P) (active_taken u rs (ap (λ x. taken x.state) same ∙ on)) a).0
slots_at P (u ∷ rs) (suc i) at e on a = go (taken u.state) a (slots_at P rs i at e on)
  where
    go : (b : Bool) → AllByRecursion P (cond b (view u ∷ active_of rs) (active_of rs)) → (AllByRecursion P (active_of rs) → P (view at)) → P (view at)
    go true q later = later q.1
    go false q later = later q

-- a change of the one place that holds a handle, as `f` changes the list of its transaction alone
kept_apart : (ts : List Transaction) (h : ℕ) → AllByRecursion (λ u. u.start ≡ h → ⊥) ts → without ts h ≡ ts
kept_apart [] h a = refl
kept_apart (t ∷ ts) h a = rw (ne_eqb t.start h a.0) (ap (λ us. t ∷ us) (kept_apart ts h a.1))

changed_apart : (ts : List Transaction) (h : ℕ) (f : Transaction → Transaction) → AllByRecursion (λ u. u.start ≡ h → ⊥) ts → changed ts h f ≡ ts
changed_apart [] h f a = refl
changed_apart (u ∷ ts) h f a = rw (ne_eqb u.start h a.0) (ap (λ us. u ∷ us) (changed_apart ts h f a.1))

pub slots_put : (rs : List Record) (i h : ℕ) (at r : Record) (f : Transaction → Transaction) → slice_get rs i ≡ Some at → taken at.state ≡ true → at.start ≡ h → taken r.state ≡ true → view r ≡ f (view at) → AreApart (active_of rs) → active_of (set rs i r) ≡ changed (active_of rs) h f
slots_put [] i h at r f e on has off is a = refl
slots_put (u ∷ rs) zero h at r f e on has off is a =
    let same : u ≡ at = cc in
    let t = active_taken u rs (ap (λ x. taken x.state) same ∙ on) in
    let starts : u.start ≡ h = ap (λ x. x.start) same ∙ has in
    let b = subst AreApart t a in
    rw (active_taken r rs off, t, eq-eqb u.start h starts) (ap (λ v. v ∷ active_of rs) (is ∙ ap (λ x. f (view x)) (sym same)) ∙ ap (λ us. f (view u) ∷ us) (sym (changed_apart (active_of rs) h f (rw starts at b.0))))
slots_put (u ∷ rs) (suc i) h at r f e on has off is a = go (taken u.state) a (slots_put rs i h at r f e on has off is)
  where
    go : (b : Bool) → AreApart (cond b (view u ∷ active_of rs) (active_of rs)) → (AreApart (active_of rs) → active_of (set rs i r) ≡ changed (active_of rs) h f) → cond b (view u ∷ active_of (set rs i r)) (active_of (set rs i r)) ≡ changed (cond b (view u ∷ active_of rs) (active_of rs)) h f
    go true q later =
        let ne : u.start ≡ h → ⊥ = λ s. slots_at (λ x. x.start ≡ u.start → ⊥) rs i at e on q.0 (has ∙ sym s) in
        rw (ne_eqb u.start h ne) (ap (λ us. view u ∷ us) (later q.1))
    go false q later = later q

-- the transaction in a place is the one that is found
pub slots_found : (rs : List Record) (i h : ℕ) (at : Record) → slice_get rs i ≡ Some at → taken at.state ≡ true → at.start ≡ h → AreApart (active_of rs) → found (active_of rs) h ≡ Some (view at)
slots_found [] i h at e on has a = cc
slots_found (u ∷ rs) zero h at e on has a =
    let same : u ≡ at = cc in
    let starts : u.start ≡ h = ap (λ x. x.start) same ∙ has in
    rw (active_taken u rs (ap (λ x. taken x.state) same ∙ on), eq-eqb u.start h starts) (ap (λ x. Some (view x)) same)
slots_found (u ∷ rs) (suc i) h at e on has a = go (taken u.state) a (slots_found rs i h at e on has)
  where
    go : (b : Bool) → AreApart (cond b (view u ∷ active_of rs) (active_of rs)) → (AreApart (active_of rs) → found (active_of rs) h ≡ Some (view at)) → found (cond b (view u ∷ active_of rs) (active_of rs)) h ≡ Some (view at)
    go true q later =
        let ne : u.start ≡ h → ⊥ = λ s. slots_at (λ x. x.start ≡ u.start → ⊥) rs i at e on q.0 (has ∙ sym s) in
        rw (ne_eqb u.start h ne) (later q.1)
    go false q later = later q

length_active : (rs : List Record) → length (active_of rs) ≤ length rs
length_active [] = omega arith
length_active (r ∷ rs) = let h = length_active rs in cond_both (taken r.state) (view r ∷ active_of rs) (active_of rs) (λ us. length us ≤ suc (length rs)) (λ _. omega arith) (λ _. omega arith)

slots_few : (rs : List Record) (i : ℕ) (at : Record) → slice_get rs i ≡ Some at → taken at.state ≡ false → length (active_of rs) < length rs
slots_few [] i at e off = cc
slots_few (u ∷ rs) zero at e off = let same : u ≡ at = cc in rw (active_free u rs (ap (λ x. taken x.state) same ∙ off)) (omega (arith, length_active rs))
slots_few (u ∷ rs) (suc i) at e off = let h = slots_few rs i at e off in cond_both (taken u.state) (view u ∷ active_of rs) (active_of rs) (λ us. length us < suc (length rs)) (λ _. omega arith) (λ _. omega arith)

least_more : (kind : Kind) (r : Record) (rs : List Record) (n : ℕ) → least_start (is_of_kind kind) n (active_of (r ∷ rs)) ≡ cond (holds_kind kind r.state) (min r.start (least_start (is_of_kind kind) n (active_of rs))) (least_start (is_of_kind kind) n (active_of rs))
least_more kind r rs n = go r.state refl
  where
    go : (s : State) → r.state ≡ s → least_start (is_of_kind kind) n (active_of (r ∷ rs)) ≡ cond (holds_kind kind s) (min r.start (least_start (is_of_kind kind) n (active_of rs))) (least_start (is_of_kind kind) n (active_of rs))
    go Free e = rw e
    go Reader e = rw e
    go Updater e = rw e

-- Searches

-- where the search for a handle ended, as it is read
abbrev pub here_from : (rs : List Record) (h i : ℕ) (d : Record) → Some i ≡ position (has_handle h) rs → IsHere rs h i
here_from rs h i d e =
    let s = passing (has_handle h) rs i d e in
    let same = get_or_from_slice_get rs i s.at d s.reads in
    let both = and_parts (eqb s.at.start h) (taken s.at.state) s.passes in
    record { at = get_or rs i d; reads = s.reads ∙ ap Some (sym same); is_taken = ap (λ r. taken r.state) same ∙ both.1; has = ap (λ r. r.start) same ∙ eqb-true s.at.start h both.0 }

found_from : (rs : List Record) (h n : ℕ) → is_some (found (active_of rs) h) ≡ is_some (position_from (has_handle h) n rs)
found_from [] h n = refl
found_from (r ∷ rs) h n = go (taken r.state) (found_from rs h (n + 1))
  where
    head : (e : Bool) → is_some (found (active_of rs) h) ≡ is_some (position_from (has_handle h) (n + 1) rs) → is_some (cond e (Some (view r)) (found (active_of rs) h)) ≡ is_some (cond (e && true) (Some n) (position_from (has_handle h) (n + 1) rs))
    head true later = refl
    head false later = later

    free : (e : Bool) → is_some (found (active_of rs) h) ≡ is_some (position_from (has_handle h) (n + 1) rs) → is_some (found (active_of rs) h) ≡ is_some (cond (e && false) (Some n) (position_from (has_handle h) (n + 1) rs))
    free true later = later
    free false later = later

    go : (b : Bool) → is_some (found (active_of rs) h) ≡ is_some (position_from (has_handle h) (n + 1) rs) → is_some (found (cond b (view r ∷ active_of rs) (active_of rs)) h) ≡ is_some (cond (eqb r.start h && b) (Some n) (position_from (has_handle h) (n + 1) rs))
    go true later = head (eqb r.start h) later
    go false later = free (eqb r.start h) later

-- a transaction is active just where a record has its handle
found_position : (rs : List Record) (h : ℕ) → is_some (found (active_of rs) h) ≡ is_some (position (has_handle h) rs)
found_position rs h = found_from rs h 0 ∙ ap is_some (sym (position_from-zero (has_handle h) rs))

-- no record has the handle
pub found_none : (rs : List Record) (h : ℕ) → None ≡ position (has_handle h) rs → found (active_of rs) h ≡ None
found_none rs h e = go (found (active_of rs) h) (found_position rs h ∙ ap is_some (sym e))
  where
    go : (o : Option Transaction) → is_some o ≡ false → o ≡ None
    go None q = refl
    go (Some t) q = absurd (true≢false q)

busy_from : (rs : List Record) (n : ℕ) → position_from is_free n rs ≡ None → length (active_of rs) ≡ length rs
busy_from [] n e = refl
busy_from (r ∷ rs) n e = go (taken r.state) e (busy_from rs (n + 1))
  where
    go : (b : Bool) → cond (not b) (Some n) (position_from is_free (n + 1) rs) ≡ None → (position_from is_free (n + 1) rs ≡ None → length (active_of rs) ≡ length rs) → length (cond b (view r ∷ active_of rs) (active_of rs)) ≡ suc (length rs)
    go true q later = ap suc (later q)
    go false q later = absurd (none-some n (sym q))

-- no record is free
pub none_vacant : (rs : List Record) → length rs ≡ MAX_ACTIVE → None ≡ position is_free rs → leb MAX_ACTIVE (length (active_of rs)) ≡ true
none_vacant rs n e = le-leb _ _ (omega (arith, n, busy_from rs 0 (nowhere is_free rs e)))

-- where the search for a free record ended
pub vacant_at : (rs : List Record) (i : ℕ) → Some i ≡ position is_free rs → (at : Record) × (slice_get rs i ≡ Some at) × (taken at.state ≡ false)
vacant_at rs i e = let s = passing is_free rs i free_record e in (s.at, s.reads, free (taken s.at.state) s.passes)
  where
    free : (b : Bool) → not b ≡ true → b ≡ false
    free true q = sym q
    free false q = refl

-- a record is free
pub roomy : (rs : List Record) (i : ℕ) → length rs ≡ MAX_ACTIVE → Some i ≡ position is_free rs → leb MAX_ACTIVE (length (active_of rs)) ≡ false
roomy rs i n e = let v = vacant_at rs i e in lt-leb _ _ (omega (arith, n, slots_few rs i v.0 v.1 v.2))

-- a freed record: its transaction is gone
pub slots_freed : (rs : List Record) (i h : ℕ) (at r : Record) → slice_get rs i ≡ Some at → taken at.state ≡ true → at.start ≡ h → taken r.state ≡ false → AreApart (active_of rs) → active_of (set rs i r) ≡ without (active_of rs) h
slots_freed [] i h at r e on has off a = refl
slots_freed (u ∷ rs) zero h at r e on has off a =
    let same : u ≡ at = cc in
    let t = active_taken u rs (ap (λ x. taken x.state) same ∙ on) in
    let starts : u.start ≡ h = ap (λ x. x.start) same ∙ has in
    let b = subst AreApart t a in
    rw (active_free r rs off, t, eq-eqb u.start h starts) (sym (kept_apart (active_of rs) h (rw starts at b.0)))
slots_freed (u ∷ rs) (suc i) h at r e on has off a = go (taken u.state) a (slots_freed rs i h at r e on has off)
  where
    go : (b : Bool) → AreApart (cond b (view u ∷ active_of rs) (active_of rs)) → (AreApart (active_of rs) → active_of (set rs i r) ≡ without (active_of rs) h) → cond b (view u ∷ active_of (set rs i r)) (active_of (set rs i r)) ≡ without (cond b (view u ∷ active_of rs) (active_of rs)) h
    go true q later =
        let ne : u.start ≡ h → ⊥ = λ s. slots_at (λ x. x.start ≡ u.start → ⊥) rs i at e on q.0 (has ∙ sym s) in
        rw (ne_eqb u.start h ne) (ap (λ us. view u ∷ us) (later q.1))
    go false q later = later q

-- the record that was put at i is read there
pub slice_get-set : (rs : List Record) (i : ℕ) (r at : Record) → slice_get rs i ≡ Some at → slice_get (set rs i r) i ≡ Some r
slice_get-set [] i r at e = cc
slice_get-set (u ∷ rs) zero r at e = refl
slice_get-set (u ∷ rs) (suc i) r at e = slice_get-set rs i r at e

least_min : (p : Kind → Bool) (n x : ℕ) (ts : List Transaction) → least_start p (min n x) ts ≡ min x (least_start p n ts)
least_min p n x [] = omega arith
least_min p n x (t ∷ ts) = go (p t.kind) (least_min p n x ts)
  where
    go : (b : Bool) → least_start p (min n x) ts ≡ min x (least_start p n ts) → cond b (min t.start (least_start p (min n x) ts)) (least_start p (min n x) ts) ≡ min x (cond b (min t.start (least_start p n ts)) (least_start p n ts))
    go true e = omega arith
    go false e = e

-- the least start of the records of a kind
pub least_fold : (kind : Kind) (rs : List Record) (n : ℕ) → fold min n (map (λ r. r.start) (filter (λ r. holds_kind kind r.state) rs)) ≡ least_start (is_of_kind kind) n (active_of rs)
least_fold kind [] n = refl
least_fold kind (r ∷ rs) n = go (holds_kind kind r.state) (least_more kind r rs n) (least_fold kind rs)
  where
    go : (b : Bool) → least_start (is_of_kind kind) n (active_of (r ∷ rs)) ≡ cond b (min r.start (least_start (is_of_kind kind) n (active_of rs))) (least_start (is_of_kind kind) n (active_of rs)) → ((m : ℕ) → fold min m (map (λ r. r.start) (filter (λ r. holds_kind kind r.state) rs)) ≡ least_start (is_of_kind kind) m (active_of rs)) → fold min n (map (λ r. r.start) (cond b (r ∷ filter (λ r. holds_kind kind r.state) rs) (filter (λ r. holds_kind kind r.state) rs))) ≡ least_start (is_of_kind kind) n (active_of (r ∷ rs))
    go true e rest = rest (min n r.start) ∙ least_min (is_of_kind kind) n r.start (active_of rs) ∙ sym e
    go false e rest = rest n ∙ sym e
