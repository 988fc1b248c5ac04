use Rattle.std.proofs.Common.{◌≡◌, ◌≤◌, length, sym, ap, ◌∙◌, arith}
use Rattle.std.proofs.lemmas.List.{take_all}
use Rattle.chain.specs.Links.{before, laid}
use Rattle.chain.proofs.Setups.{laid_more}
use Rattle.chain.proofs.links.link_all.Goals as goal

pub loop-i-preserved : goal.loop-i-preserved
loop-i-preserved c = laid_more c.loop-i.cells c.loop-i.i c.loop-i.unused (omega arith) c.loop-i.invariant.0 c.loop-i.invariant.1

pub returns : goal.returns
returns c =
    let end : length c.loop-i.cells ≤ c.loop-i.i = omega arith in
    let all : c.loop-i.i ≡ length c.args.cells.now = omega arith in
    record {
      unused = c.loop-i.invariant.0 ∙ ap before all;
      after = sym (take_all c.loop-i.i c.loop-i.cells end) ∙ c.loop-i.invariant.1 ∙ ap laid all;
    }
