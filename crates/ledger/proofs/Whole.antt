-- Every history that the ledger tells is serial and lawful.
use Rattle.std.proofs.Common.{◌≡◌, ℕ, ◌<◌, List, Some, sym, refl, ◌∙◌, subst}
use Rattle.ledger.specs.Ledger.{Limits, newest_value}
use Rattle.ledger.specs.History.{Made, after, IsTold, stands_at}
use Rattle.ledger.specs.Laws.{IsLawfulHistory, SerialLaw, Law}
use Rattle.ledger.proofs.Histories.{within, run_alone, leaves}
use Rattle.ledger.proofs.Times.{stands_stay, time}
use Rattle.ledger.proofs.Reclaims.{unmoved}
use Rattle.ledger.proofs.Restarts.{restart_law}
use Rattle.ledger.proofs.Verdicts.{fulls}

pub serial : SerialLaw
serial n ms told = record {
  stands = λ newer older m t h e p. subst (λ xs. stands_at xs t ≡ Some h) (sym e) (stands_stay n newer older m t h (subst (IsTold n) e told) p);
  within = within n ms told;
  reads = run_alone n ms told;
  newest_is = λ k lt. leaves n ms told k;
}

-- with the newest values as anyone answers them that answers the ledger's
pub lawful_with : (n : Limits) (ms : List Made) (newest : ℕ → ℕ) → IsTold n ms → ((k : ℕ) → k < n.keys → newest k ≡ newest_value k (after n ms).versions) → IsLawfulHistory n ms newest
lawful_with n ms newest told same =
    let s = serial n ms told in
    record {
      serial = record { stands = s.stands; within = s.within; reads = s.reads; newest_is = λ k lt. same k lt ∙ s.newest_is k lt };
      time = time n ms told;
      reclaims = unmoved n ms told;
      restarts = restart_law n ms told;
      fulls = fulls n ms told;
    }

pub lawful : Law
lawful n ms told = lawful_with n ms (λ k. newest_value k (after n ms).versions) told (λ k lt. refl)
