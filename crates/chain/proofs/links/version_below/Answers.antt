use Rattle.std.proofs.Common.{ℕ, Option, ap, ◌∙◌}
use Rattle.versions.specs.Stores.{pair_of}
use Rattle.chain.specs.Links.{list_from, version_of}
use Rattle.chain.proofs.Chains.{first_inside}
use Rattle.chain.proofs.Adds.{as_of_first}
use Rattle.chain.proofs.links.version_below.Goals as goal

pub version-requires : goal.version-requires
version-requires c = first_inside c.args.tick c.args.cells.now c.args.from c.find_below-found.result c.requires c.find_below-found.ensures

pub returns : goal.returns
returns c =
    c.version.ensures
    ∙ ap (λ (o : Option ℕ). pair_of (version_of c.args.cells.now o)) c.find_below-found.ensures
    ∙ ap pair_of (as_of_first c.args.tick c.args.cells.now (list_from c.args.cells.now c.args.from))
