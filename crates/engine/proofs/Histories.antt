-- One call more in a history that led to the engine.
use Rattle.std.proofs.Common.{◌≡◌, ℕ, ◌<◌, List, ◌∷◌, Result, sym, ap, ◌∙◌, subst, ⊎_elim, arith}
use Rattle.std.proofs.lemmas.Bool.{cases_eq}
use Rattle.ledger.specs.declared.Call.{Call}
use Rattle.ledger.specs.declared.Done.{Done}
use Rattle.ledger.specs.declared.Fault.{Fault}
use Rattle.ledger.specs.Ledger.{Limits, Ledger, newest_value}
use Rattle.ledger.specs.History.{call_made, Made, after, IsTold}
use Rattle.ledger.specs.Laws.{IsLawfulHistory}
use Rattle.ledger.proofs.Restarts.{same_limits}
use Rattle.ledger.proofs.Whole.{lawful_with}
use Rattle.versions.specs.Stores.{Store, newest}
use Rattle.validation.specs.Stamps.{Stamps}
use Rattle.transaction_table.specs.declared.table.TransactionTable.{TransactionTable}
use Rattle.engine.specs.declared.engine.Engine.{Engine}
use Rattle.engine.specs.Fits.{Fits, limits_of}
use Rattle.engine.specs.Steps.{Refines, GoesOn, newest_in}
use Rattle.engine.proofs.Revisions.{value_now}
use Rattle.engine.proofs.Fittings.{limits_are}

-- the store's newest is the ledger's
newest_told : {l : Ledger} {t : TransactionTable} {s : Store} {v : Stamps} → Fits l t s v → (k : ℕ) → k < l.limits.keys → newest_in s k ≡ newest_value k l.versions
newest_told {l = l} {t = t} {s = s} {v = v} f k lt =
    let on : 0 < t.last = ⊎_elim (λ (q : t.last ≡ 0). absurd (omega (arith, ap (λ n. n.keys) f.limits ∙ ap (λ z. (limits_of z s v).keys) q))) (λ (q : t.last ≡ 0 → ⊥). omega arith) (cases_eq t.last 0) in
    ap (λ c. (newest c).value) ((f.holds on).revisions k (omega (arith, ap (λ n. n.keys) (limits_are f on)))) ∙ value_now f.reached k

-- a told history is lawful, with the values that the store's newest answers
pub lawful_in : (n : Limits) (ms : List Made) {t : TransactionTable} {s : Store} {v : Stamps} → IsTold n ms → Fits (after n ms) t s v → IsLawfulHistory n ms (newest_in s)
lawful_in n ms {s = s} told f = lawful_with n ms (newest_in s) told (λ k lt. newest_told f k (subst (λ (m : Limits). k < m.keys) (sym (same_limits n ms)) lt))

pub goes_on : {S V : Type 0} (m : S → Store) (p : V → Stamps) (e e' : Engine S V) (c : Call) (b : List ℕ) (a : Result Done Fault) (b' : List ℕ) → Refines m p e e' c b a b' → GoesOn m p e e' c b a b'
goes_on m p e e' c b a b' refines n ms led =
    let q = refines (after n ms) led.1 in
    let told : IsTold n (call_made c b a b' ∷ ms) = (q.answer, q.buffer, led.0) in
    ((told, q.after), lawful_in n (call_made c b a b' ∷ ms) told q.after)
