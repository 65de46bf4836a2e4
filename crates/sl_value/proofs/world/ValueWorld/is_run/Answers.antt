use Rattle.std.proofs.Common.{subst}
use Rattle.sl_value.specs.Run.{ValueRunning, IsValueRun}
use Rattle.sl_value.proofs.world.ValueWorld.is_run.Goals as goal

pub returns : goal.returns
returns c = subst (λ (r : ValueRunning). IsValueRun r.input r.scene) c.self.view_is c.self.invariant
