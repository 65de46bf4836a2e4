-- A pass of the net that was looked up: its entries are choices, with the links that they take from.
use Rattle.std.specs.Prelude.{◌≡◌, Bool, All}
use Rattle.sl_machine.specs.Plan.{HasChoice}
use Rattle.sl_layout.specs.Net.{Net}
use Rattle.sl_layout.specs.Wiring.{plan_of}
use Rattle.sl_model.specs.Schedule.{pass_of}
use Rattle.sl_world.specs.Scene.{links_of}
use Rattle.sl_proto.specs.declared.passes.Pass.{Pass}

pub record IsPass (net : Net) (settling : Bool) (pass : Pass) : Type 0 where
  pub is : pass.entries.items ≡ pass_of net settling
  pub choices : All (λ e. HasChoice (plan_of net) e.0 e.1) pass.entries.items
  pub links : pass.links ≡ links_of (plan_of net) pass.entries.items
