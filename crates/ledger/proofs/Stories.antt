-- What a history shows, apart from the history: who did what, what it saw, and who stands where.
use Rattle.std.proofs.Common.{◌≡◌, ℕ, zero, suc, ◌<◌, ◌≤◌, max, Bool, true, false, cond, ◌&&◌, eqb, ltb, List, [], ◌∷◌, ◌++◌, Some, None, Option, unwrap_or, sym, refl, ap, ◌∙◌, arith}
use Rattle.std.specs.List.{AllByRecursion, find}
use Rattle.std.specs.Option.{option_map}
use Rattle.std.proofs.lemmas.List.{append-nil, append_assoc}
use Rattle.std.proofs.lemmas.Bool.{ltb-false, le-ltb, lt-ltb, eqb-true, eqb-false}
use Rattle.ledger.specs.declared.Write.{Write}
use Rattle.ledger.specs.Ledger.{Version, value_below, newest_value, own_write, written}
use Rattle.ledger.specs.Calls.{granule_stamp, stale_read_among, stamped}
use Rattle.ledger.specs.History.{Sight, Operation}
use Rattle.ledger.proofs.Presence.{stale_read_at}
use Rattle.ledger.specs.Serial.{Table, applied, run, sights_in, run_reads}

pub record Story : Type 0 where
  pub operations : ℕ → List Operation
  pub saw : ℕ → List Sight
  pub stands : ℕ → Option ℕ

abbrev pub operations_at : Story → Option ℕ → List Operation
operations_at s None = []
operations_at s (Some h) = s.operations h

-- the serial table after the transactions at ticks 1 to t
abbrev pub tab : Story → ℕ → Table
tab s zero = λ k. 0
tab s (suc t) = run (operations_at s (s.stands (suc t))) (tab s t)

pub run_push : (xs : List Operation) (a : Operation) (v : Table) → run (xs ++ (a ∷ [])) v ≡ applied a (run xs v)
run_push [] a v = refl
run_push (x ∷ xs) a v = run_push xs a (applied x v)

pub run_reads_push : (xs : List Operation) (a : Operation) (v : Table) → run_reads (xs ++ (a ∷ [])) v ≡ run_reads xs v ++ sights_in a (run xs v)
run_reads_push [] a v = append-nil (sights_in a v)
run_reads_push (x ∷ xs) a v = ap (λ ys. sights_in x v ++ ys) (run_reads_push xs a (applied x v)) ∙ sym (append_assoc (sights_in x v) (run_reads xs (applied x v)) (sights_in a (run xs (applied x v))))

-- tables of two stories that do the same at each tick up to t
pub tab_same : (s z : Story) (t : ℕ) → ((n : ℕ) (v : Table) → suc n ≤ t → run (operations_at s (s.stands (suc n))) v ≡ run (operations_at z (z.stands (suc n))) v) → tab s t ≡ tab z t
tab_same s z zero e = refl
tab_same s z (suc t) e = ap (run (operations_at s (s.stands (suc t)))) (tab_same s z t (λ n v le. e n v (omega arith))) ∙ e t (tab z t) (omega arith)

-- the newest value is the newest below any tick past all stamps
pub value_newest : (k c t : ℕ) (vs : List Version) → AllByRecursion (λ v. v.stamp ≤ c) vs → c < t → value_below k t vs ≡ newest_value k vs
value_newest k c t [] a lt = refl
value_newest k c t (v ∷ vs) a lt = go (eqb v.key k) (lt-ltb v.stamp t (omega (arith, a.0))) (value_newest k c t vs a.1 lt)
  where
    go : (b : Bool) → ltb v.stamp t ≡ true → value_below k t vs ≡ newest_value k vs → cond (b && ltb v.stamp t) v.value (value_below k t vs) ≡ cond b v.value (newest_value k vs)
    go true e ih = rw e
    go false e ih = ih

-- the versions of a commit at c, to one who look below an earlier tick, and to one who look below a later tick
pub value_before : (k c t : ℕ) (ws : List Write) (vs : List Version) → t ≤ c → value_below k t (stamped c ws ++ vs) ≡ value_below k t vs
value_before k c t [] vs le = refl
value_before k c t (w ∷ ws) vs le = go (eqb w.key k) (le-ltb c t le) (value_before k c t ws vs le)
  where
    go : (b : Bool) → ltb c t ≡ false → value_below k t (stamped c ws ++ vs) ≡ value_below k t vs → cond (b && ltb c t) w.value (value_below k t (stamped c ws ++ vs)) ≡ value_below k t vs
    go true e ih = rw e ih
    go false e ih = ih

pub value_after : (k c t : ℕ) (ws : List Write) (vs : List Version) → c < t → value_below k t (stamped c ws ++ vs) ≡ unwrap_or (own_write k ws) (value_below k t vs)
value_after k c t [] vs lt = refl
value_after k c t (w ∷ ws) vs lt = go (eqb w.key k) (lt-ltb c t lt) (value_after k c t ws vs lt)
  where
    go : (b : Bool) → ltb c t ≡ true → value_below k t (stamped c ws ++ vs) ≡ unwrap_or (own_write k ws) (value_below k t vs) → cond (b && ltb c t) w.value (value_below k t (stamped c ws ++ vs)) ≡ unwrap_or (option_map (λ (v : Write). v.value) (cond b (Some w) (find (λ v. eqb v.key k) ws))) (value_below k t vs)
    go true e ih = rw e
    go false e ih = ih

-- a granule not written after h has the newest values that it had
pub granule_kept : (g : ℕ → ℕ) (k c h : ℕ) (ws : List Write) (vs : List Version) → h < c → granule_stamp g k (stamped c ws ++ vs) ≤ h → (newest_value k (stamped c ws ++ vs) ≡ newest_value k vs) × (granule_stamp g k vs ≤ h)
granule_kept g k c h [] vs lt le = (refl, le)
granule_kept g k c h (w ∷ ws) vs lt le = go (eqb (g w.key) (g k)) (eqb w.key k) refl refl le (granule_kept g k c h ws vs lt)
  where
    go : (a b : Bool) → eqb (g w.key) (g k) ≡ a → eqb w.key k ≡ b → cond a (max c (granule_stamp g k (stamped c ws ++ vs))) (granule_stamp g k (stamped c ws ++ vs)) ≤ h → (granule_stamp g k (stamped c ws ++ vs) ≤ h → (newest_value k (stamped c ws ++ vs) ≡ newest_value k vs) × (granule_stamp g k vs ≤ h)) → (cond b w.value (newest_value k (stamped c ws ++ vs)) ≡ newest_value k vs) × (granule_stamp g k vs ≤ h)
    go true b d e q ih = absurd (omega arith)
    go false true d e q ih = absurd (eqb-false (g w.key) (g k) d (ap g (eqb-true w.key k e)))
    go false false d e q ih = ih q

pub none_stale : (g : ℕ → ℕ) (vs : List Version) (s : ℕ) (ks : List ℕ) → stale_read_among g vs s ks ≡ None → AllByRecursion (λ k. granule_stamp g k vs ≤ s) ks
none_stale g vs s [] e = tt
none_stale g vs s (k ∷ ks) e = go (ltb s (granule_stamp g k vs)) refl e (none_stale g vs s ks)
  where
    go : (b : Bool) → ltb s (granule_stamp g k vs) ≡ b → option_map (λ (j : ℕ). stale_read_at j (granule_stamp g j vs)) (cond b (Some k) (find (λ j. ltb s (granule_stamp g j vs)) ks)) ≡ None → (stale_read_among g vs s ks ≡ None → AllByRecursion (λ j. granule_stamp g j vs ≤ s) ks) → (granule_stamp g k vs ≤ s) × AllByRecursion (λ j. granule_stamp g j vs ≤ s) ks
    go true d q ih = cc
    go false d q ih = (ltb-false s (granule_stamp g k vs) d, ih q)

pub own_written : (j k x : ℕ) (ws : List Write) → own_write j (written ws k x) ≡ cond (eqb k j) (Some x) (own_write j ws)
own_written j k x [] = go (eqb k j)
  where
    go : (b : Bool) → option_map (λ (v : Write). v.value) (cond b (Some (record { key = k; value = x })) None) ≡ cond b (Some x) None
    go true = refl
    go false = refl
own_written j k x (w ∷ ws) = go (eqb w.key k) (eqb w.key j) (eqb k j) refl refl refl (own_written j k x ws)
  where
    go : (a b c : Bool) → eqb w.key k ≡ a → eqb w.key j ≡ b → eqb k j ≡ c → own_write j (written ws k x) ≡ cond (eqb k j) (Some x) (own_write j ws) → own_write j (cond a (record { key = k; value = x } ∷ ws) (w ∷ written ws k x)) ≡ cond (eqb k j) (Some x) (option_map (λ (v : Write). v.value) (cond (eqb w.key j) (Some w) (find (λ v. eqb v.key j) ws)))
    go true b true d e f ih = rw f
    go true true false d e f ih = absurd (eqb-false k j f (sym (eqb-true w.key k d) ∙ eqb-true w.key j e))
    go true false false d e f ih = rw (f, e)
    go false true true d e f ih = absurd (eqb-false w.key k d (eqb-true w.key j e ∙ sym (eqb-true k j f)))
    go false true false d e f ih = rw (f, e)
    go false false c d e f ih = rw e ih
