-- What the runs of a setting give.
use Rattle.std.specs.Prelude.{ℕ, ◌/◌, List, if◌then◌else◌, max, nat_eq}
use Rattle.std.specs.Int.{div_ceil}
use Rattle.versions.specs.Stores.{Store, new_store, sizes_check}
use Rattle.chain.specs.Store.{chain_check}
use Rattle.validation.specs.Stamps.{Stamps}
use Rattle.validation.specs.SetUp.{stamp_table_check, recent_list_check, new_stamps}
use Rattle.trials.specs.Format.{trial_decoded}
use Rattle.callfile.specs.Programs.{lines_over}
use Rattle.trials.specs.declared.tally.Tally.{Tally}
use Rattle.trials.specs.declared.trial.Setting.{Setting}
use Rattle.trials.specs.Tally.{run_tally, tally_sum}

-- the tally of one run, over a store and a validator of these meanings
abbrev pub tally_over : Setting → List ℕ → List ℕ → Store → Stamps → Tally
tally_over g calls expected s v = run_tally expected (lines_over trial_decoded g.last s v g.places calls)

-- the stores of a setting
abbrev pub new_log_store : Setting → Store
new_log_store g = new_store (sizes_check g.keys g.cells) g.keys g.cells

abbrev pub new_chain_store : Setting → Store
new_chain_store g = new_store (chain_check g.keys g.keys g.cells) g.keys g.cells

-- the validators of a setting; a table is lent places as for one key to a granule where there are none
abbrev pub new_stamp_table : Setting → Stamps
new_stamp_table g =
    new_stamps (stamp_table_check g.keys g.grain (div_ceil g.keys (max g.grain 1))) g.keys (λ k. k / g.grain)

abbrev pub new_recent_list : Setting → Stamps
new_recent_list g = new_stamps (recent_list_check g.keys g.keys) g.keys (λ k. k)

-- the tally of two runs, one over each store
abbrev pub stores_tally : Setting → List ℕ → List ℕ → Stamps → Tally
stores_tally g calls expected v =
    tally_sum (tally_over g calls expected (new_log_store g) v) (tally_over g calls expected (new_chain_store g) v)

abbrev pub tables_tally : Setting → List ℕ → List ℕ → Tally
tables_tally g calls expected = stores_tally g calls expected (new_stamp_table g)

abbrev pub lists_tally : Setting → List ℕ → List ℕ → Tally
lists_tally g calls expected = stores_tally g calls expected (new_recent_list g)

-- over a recent list too where each granule is one key
abbrev pub pairs_tally : Setting → List ℕ → List ℕ → Tally
pairs_tally g calls expected =
    if nat_eq g.grain 1 then tally_sum (tables_tally g calls expected) (lists_tally g calls expected)
    else tables_tally g calls expected
