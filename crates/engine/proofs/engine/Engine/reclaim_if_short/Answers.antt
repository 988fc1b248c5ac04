use Rattle.std.proofs.Common.{[], true, false, sym, ap, ◌∙◌}
use Rattle.std.specs.Option.{is_some}
use Rattle.engine.proofs.Reclaims.{fits_if_short, is_short}
use Rattle.engine.proofs.engine.Engine.reclaim_if_short.Goals as goal

pub returns-then-is_some-clause-fits : goal.returns-then-is_some-clause-fits
returns-then-is_some-clause-fits g c l on f = fits_if_short f on c.args.versions true (sym c.if-is_some.true ∙ c.is_some.ensures ∙ ap is_some c.shortage.ensures ∙ is_short _) (λ _. (c.reclaim.ensures.refines [] l f).after) (λ q. cc)

pub returns-else-is_some-clause-fits : goal.returns-else-is_some-clause-fits
returns-else-is_some-clause-fits g c l on f = fits_if_short f on c.args.versions false (sym c.if-is_some.false ∙ c.is_some.ensures ∙ ap is_some c.shortage.ensures ∙ is_short _) (λ q. cc) (λ _. f)
