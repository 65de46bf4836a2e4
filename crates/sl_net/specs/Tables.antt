-- What a net keeps beside its units.
use Rattle.std.specs.Prelude.{◌≡◌, ℕ, List, map}
use Rattle.sl_machine.specs.Plan.{Plan, IsSound}
use Rattle.sl_layout.specs.Net.{Net, units}
use Rattle.sl_layout.specs.Wiring.{plan_of, upstream_of}

pub record HasTables (net : Net) (wiring : Plan) (upstream : List (List ℕ)) : Type 0 where
  pub wiring_is : wiring ≡ plan_of net
  pub sound : IsSound wiring
  pub upstream_is : upstream ≡ map (upstream_of net) (units net)
