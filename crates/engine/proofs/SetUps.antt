-- A new engine fits a new ledger.
use Rattle.std.proofs.Common.{◌≡◌, ℕ, zero, suc, ◌<◌, ◌≤◌, Bool, true, false, cond, not, ◌||◌, eqb, ltb, [], length, Ok, Err, Result, sym, refl, ap, ◌∙◌, subst, ⊎_elim, arith}
use Rattle.std.specs.Result.{is_ok}
use Rattle.std.proofs.lemmas.List.{nil_from_length}
use Rattle.std.proofs.lemmas.Bool.{eqb-true, eqb-false, ltb-false, cases_eq}
use Rattle.engine.specs.declared.engine.Engine.{Engine}
use Rattle.engine.specs.declared.engine.TheConstants.{LAST_TICK}
use Rattle.engine.specs.declared.fault.SetUpFault.{SetUpFault}
use Rattle.engine.specs.declared.fault.SetUpFault.TheVariants.{LastTick, NotFresh}
use Rattle.ledger.specs.Ledger.{Limits, new_ledger}
use Rattle.ledger.specs.Reach.{new}
use Rattle.versions.specs.Stores.{Store, kept, sum_below}
use Rattle.validation.specs.Stamps.{Stamps, latest, greatest_below, stamp_at}
use Rattle.transaction_table.specs.declared.table.TransactionTable.{TransactionTable}
use Rattle.transaction_table.specs.View.{active_of}
use Rattle.transaction_table.specs.Shuffle.{IsShuffle, done}
use Rattle.engine.specs.SetUp.{engine_check, last_of}
use Rattle.engine.specs.Fits.{Fits, limits_of}
use Rattle.engine.specs.Parts.{FitsEngine, FitsNew, store_of, validator_of, table_of}

-- a sum that is 0 has no part above 0
none_in_sum : (n : ℕ) (f : ℕ → ℕ) → sum_below n f ≡ 0 → (k : ℕ) → k < n → f k ≡ 0
none_in_sum zero f e k lt = absurd (omega arith)
none_in_sum (suc n) f e k lt = ⊎_elim (λ (q : k ≡ n). ap f q ∙ omega arith) (λ (q : k ≡ n → ⊥). none_in_sum n f (omega arith) k (omega arith)) (cases_eq k n)

greatest_none : (n : ℕ) (f : ℕ → ℕ) → greatest_below n f ≡ 0 → (k : ℕ) → k < n → f k ≡ 0
greatest_none zero f e k lt = absurd (omega arith)
greatest_none (suc n) f e k lt = ⊎_elim (λ (q : k ≡ n). ap f q ∙ omega arith) (λ (q : k ≡ n → ⊥). greatest_none n f (omega arith) k (omega arith)) (cases_eq k n)

pub record PassesEngineCheck (last : ℕ) (s : Store) (v : Stamps) : Type 0 where
  pub some : 0 < last
  pub small : last ≤ LAST_TICK
  pub same_keys : v.keys ≡ s.keys
  pub no_versions : kept s ≡ 0
  pub no_stamps : latest v ≡ 0

abbrev no_fault : Result (Unit {0}) SetUpFault
no_fault = Ok tt

check_passed : (last : ℕ) (s : Store) (v : Stamps) → no_fault ≡ engine_check last s v → PassesEngineCheck last s v
check_passed last s v e = go (eqb last 0) (ltb LAST_TICK last) (eqb s.keys v.keys) (ltb 0 (kept s)) (ltb 0 (latest v)) refl refl refl refl refl e
  where
    go : (a b c d x : Bool) → eqb last 0 ≡ a → ltb LAST_TICK last ≡ b → eqb s.keys v.keys ≡ c → ltb 0 (kept s) ≡ d → ltb 0 (latest v) ≡ x → no_fault ≡ cond (a || b) (Err (LastTick last)) (cond (not c || (d || x)) (Err NotFresh) no_fault) → PassesEngineCheck last s v
    go true b c d x i j k m n q = let z : ◌≡◌ {A = ℕ} 0 1 = cc in absurd (omega arith)
    go false true c d x i j k m n q = let z : ◌≡◌ {A = ℕ} 0 1 = cc in absurd (omega arith)
    go false false false d x i j k m n q = let z : ◌≡◌ {A = ℕ} 0 1 = cc in absurd (omega arith)
    go false false true true x i j k m n q = let z : ◌≡◌ {A = ℕ} 0 1 = cc in absurd (omega arith)
    go false false true false true i j k m n q = let z : ◌≡◌ {A = ℕ} 0 1 = cc in absurd (omega arith)
    go false false true false false i j k m n q = record { some = omega (arith, eqb-false last 0 i); small = ltb-false LAST_TICK last j; same_keys = sym (eqb-true s.keys v.keys k); no_versions = omega (arith, ltb-false 0 (kept s) m); no_stamps = omega (arith, ltb-false 0 (latest v) n) }

pub new_fits : (last : ℕ) (s : Store) (v : Stamps) (t : TransactionTable) → t.last ≡ last_of last s v → t.clock ≡ 0 → active_of t.records ≡ [] → Fits (new_ledger (limits_of t.last s v)) t s v
new_fits last s v t e ticks none = go (engine_check last s v) refl e
  where
    go : (r : Result (Unit {0}) SetUpFault) → r ≡ engine_check last s v → t.last ≡ cond (is_ok r) last 0 → Fits (new_ledger (limits_of t.last s v)) t s v
    go (Ok u) is z =
        let a = check_passed last s v is in
        record {
          reached = new _;
          ticks = omega (arith, a.small);
          limits = refl;
          clock = sym ticks;
          active = subst (IsShuffle []) (sym none) done;
          holds = λ _. record {
            same_keys = a.same_keys;
            revisions = λ k lt. nil_from_length (s.versions k) (none_in_sum s.keys (λ k. length (s.versions k)) a.no_versions k lt);
            stamps = λ k lt. greatest_none v.keys (stamp_at v) a.no_stamps k (omega (arith, a.same_keys));
          };
        }
    go (Err x) is z = record { reached = new _; ticks = omega arith; limits = refl; clock = sym ticks; active = subst (IsShuffle []) (sym none) done; holds = λ p. absurd (omega arith) }

-- an engine made of what means this fits the new ledger of these limits
pub made_with : {S V : Type 0} (m : S → Store) (p : V → Stamps) (k : Limits) (last : ℕ) (a : Store) (b : Stamps) (s : S) (v : V) (e : Engine S V) → limits_of (last_of last a b) a b ≡ k → m s ≡ a → p v ≡ b
    → FitsNew m p e → store_of e ≡ s → validator_of e ≡ v → (table_of e).last ≡ last_of last (m s) (p v) → FitsEngine m p (new_ledger k) e
made_with m p k last a b s v e limits means says fits store validator ticks =
    let same : limits_of (table_of e).last (m (store_of e)) (p (validator_of e)) ≡ k = rw (ticks, store, validator, means, says) limits in
    subst (λ n. FitsEngine m p (new_ledger n) e) same fits
