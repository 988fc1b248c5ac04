use Rattle.std.proofs.Common.{◌≡◌, sum, rules, tests, arith}
use native.Mathlib.Nat.{div-le_of_le-mul}
use Rattle.club.specs.Indexes.{played}
use Rattle.club.proofs.Indexes.{sum_bound}
use Rattle.club.proofs.index.index_of.Goals as goal

pub overflow_cast-result-2 : goal.overflow_cast-result-2
overflow_cast-result-2 c =
    let total : c.sum-sum.result ≡ sum c.args.rounds.now = search (rules, tests) in
    let count : c.count-count.result ≡ played c.args.rounds.now = search (rules, tests) in
    let bound = sum_bound c.args.rounds.now (λ k. let h = c.type_inv.rounds k in omega (arith, h)) in
    let most = div-le_of_le-mul c.count-count.result {m = c.sum-sum.result} {n = 18446744073709551615} (omega (arith, total, count, bound)) in
    omega (arith, most)
