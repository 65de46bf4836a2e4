use Rattle.std.proofs.Common.{ap, ◌∙◌, length, map}
use Rattle.sl_parts.specs.Parts.{Parts, below}
use Rattle.sl_route.specs.Routes.{ways_of, routes_of}
use Rattle.sl_route.proofs.routes.Routes.make.Goals as goal

pub returns : goal.returns
unfolding routes_of
returns c = c.in_ok-ways.ensures ∙ ap (λ (p : Parts). map (ways_of p) (below (length p.hosts))) c.parts.ensures.now
