use Rattle.std.proofs.Common.{ℕ, ◌/◌, ◌<◌, ◌≤◌, get_or}
use Rattle.validation.proofs.table.StampTableValidator.clash.Given as goal

-- no key below this one clashes
abbrev pub invariant-loop-key : goal.invariant-loop-key
invariant-loop-key l = (j : ℕ) → l.first ≤ j → j < l.key → get_or l.self.stamps.now (j / l.self.grain) 0 ≤ l.start
