use Rattle.std.proofs.Common.{rules, ◌≡◌, false, length, is_err, replicate, None}
use Rattle.chain.specs.Store.{chain_check}
use Rattle.chain.proofs.Setups.{making}
use Rattle.chain.proofs.store.ChainStore.make.Goals as goal

pub invariant_of-result-2 : goal.invariant_of-result-2
invariant_of-result-2 c =
    let none : c.fill.new.self ≡ replicate (length c.args.heads.now) None = search rules in
    let ok : is_err (chain_check c.args.keys (length c.args.heads.now) (length c.args.cells.now)) ≡ false = cc in
    let m = making c.args.keys (length c.args.heads.now) (length c.args.cells.now) c.fill.new.self c.link_all-unused.new.cells c.link_all-unused.result ok none c.link_all-unused.ensures.after c.link_all-unused.ensures.unused in
    let f = m.facts in
    record { few = f.few; small = f.small; both = f.both; chains = f.sound.chains; rest = f.sound.rest; shared = f.sound.shared; held = f.sound.held; counted = f.counted; falling = f.falling }

pub returns-clause-empty : goal.returns-clause-empty
returns-clause-empty c =
    let none : c.fill.new.self ≡ replicate (length c.args.heads.now) None = search rules in
    let ok : is_err (chain_check c.args.keys (length c.args.heads.now) (length c.args.cells.now)) ≡ false = cc in
    (making c.args.keys (length c.args.heads.now) (length c.args.cells.now) c.fill.new.self c.link_all-unused.new.cells c.link_all-unused.result ok none c.link_all-unused.ensures.after c.link_all-unused.ensures.unused).empty
