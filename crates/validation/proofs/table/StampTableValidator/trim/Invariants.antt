use Rattle.std.proofs.Common.{◌≡◌, ℕ, ◌<◌, ◌≤◌, cond, ltb, get_or}
use Rattle.validation.proofs.table.StampTableValidator.trim.Given as goal

-- the stamps so far are trimmed, the rest are as they were
abbrev pub invariant-loop-stamp : goal.invariant-loop-stamp
invariant-loop-stamp l = record {
  done : (g : ℕ) → g < l.stamp-index → get_or l.stamp-items g 0 ≡ cond (ltb (get_or l.initial.stamp-items g 0) l.tick) 0 (get_or l.initial.stamp-items g 0);
  rest : (g : ℕ) → l.stamp-index ≤ g → get_or l.stamp-items g 0 ≡ get_or l.initial.stamp-items g 0;
}
