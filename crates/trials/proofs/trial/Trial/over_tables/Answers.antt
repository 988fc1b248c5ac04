use Rattle.std.proofs.Common.{rules, ◌≡◌, refl, ℕ, List, max, ◌/◌}
use Rattle.std.specs.Int.{div_ceil}
use Rattle.validation.specs.Stamps.{Stamps}
use Rattle.validation.specs.SetUp.{stamp_table_check, new_stamps}
use Rattle.trials.specs.declared.tally.Tally.{Tally}
use Rattle.trials.specs.declared.trial.Setting.{Setting}
use Rattle.trials.specs.Tally.{tally_sum}
use Rattle.trials.specs.Runs.{tally_over, new_log_store, new_chain_store, tables_tally}
use Rattle.trials.proofs.trial.Trial.over_tables.Goals as goal

-- the runs over two tables of so many places
over_both : (g : Setting) (calls expected : List ℕ) (v w : Stamps) (p q : ℕ) (log chain both : Tally) → both ≡ tally_sum log chain → log ≡ tally_over g calls expected (new_log_store g) v → chain ≡ tally_over g calls expected (new_chain_store g) w → v ≡ new_stamps (stamp_table_check g.keys g.grain p) g.keys (λ k. k / g.grain) → w ≡ new_stamps (stamp_table_check g.keys g.grain q) g.keys (λ k. k / g.grain) → p ≡ div_ceil g.keys (max g.grain 1) → q ≡ div_ceil g.keys (max g.grain 1) → both ≡ tables_tally g calls expected
over_both g calls expected v w p q log chain both sum by_log by_chain fresh again lent relent = rw (sum, by_log, by_chain, fresh, again, lent, relent) refl

pub returns : goal.returns
returns c =
    over_both c.args.self.setting c.args.self.calls.now c.args.self.expected.now _ _ _ _ _ _ _
    c.add_assign.ensures.after c.in_ok-tally.ensures c.in_ok-over_chain.ensures c.make.ensures.fresh c.make-2.ensures.fresh
    (search rules) (search rules)
