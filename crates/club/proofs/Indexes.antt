-- The rounds played bound the sum.
use Rattle.std.proofs.Common.{◌≡◌, ℕ, suc, ◌*◌, ◌<◌, ◌≤◌, true, false, cond, ltb, List, [], ◌∷◌, get_or, sum, ⊎_elim, arith}
use Rattle.std.proofs.lemmas.Bool.{ltb-false, cases_Bool}
use Rattle.std.proofs.lemmas.List.Sums.{sum_by-cons}
use Rattle.club.specs.Indexes.{played}

-- a round of 0 adds nothing, and each other at most the greatest value
round_bound : (x : ℕ) → x < 18446744073709551616 → x ≤ cond (ltb 0 x) 1 0 * 18446744073709551615
round_bound x small =
    ⊎_elim
    (λ (e : ltb 0 x ≡ true). rw e (omega (arith, small)))
    (λ (e : ltb 0 x ≡ false). rw e (omega (arith, ltb-false 0 x e)))
    (cases_Bool (ltb 0 x))

pub sum_bound : (rounds : List ℕ) → ((k : ℕ) → get_or rounds k 0 < 18446744073709551616) → sum rounds ≤ played rounds * 18446744073709551615
sum_bound [] small = omega arith
sum_bound (x ∷ rounds) small =
    let first = round_bound x (small 0) in
    let rest = sum_bound rounds (λ k. small (suc k)) in
    omega (arith, first, rest, sum_by-cons (λ x. x) x rounds, sum_by-cons (λ x. cond (ltb 0 x) 1 0) x rounds)
