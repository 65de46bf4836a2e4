use Rattle.std.proofs.Common.{[], subst}
use Rattle.sl_simulation.specs.UnitImage.{IsUnitOf, new_state}
use Rattle.sl_simulation.proofs.UnitSteps.{new-stands}
use Rattle.sl_simulation.proofs.units.new_units_stand.Goals as goal

pub returns-clause-ingress : goal.returns-clause-ingress
returns-clause-ingress c net table u i r q = subst (λ side. IsUnitOf net table u i [] (new_state net u table side)) q (new-stands c.calls_are_shown.ensures.first net table u i r)

pub returns-clause-egress : goal.returns-clause-egress
returns-clause-egress c net table u i r q = subst (λ side. IsUnitOf net table u i [] (new_state net u table side)) q (new-stands c.calls_are_shown.ensures.first net table u i r)
