use Rattle.std.proofs.Common.{sym}
use Rattle.chain.proofs.Chains.{first_low}
use Rattle.chain.proofs.links.cut_below.Goals as goal

pub bounds-cells-found : goal.bounds-cells-found
bounds-cells-found c = rw c.from-found.ensures (first_low c.args.tick c.args.cells.now c.args.from _ c.requires (sym c.in_ok-find_below.ensures))
