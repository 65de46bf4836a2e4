use Rattle.std.proofs.Common.{sym, ◌∙◌}
use Rattle.sl_model.specs.World.{world}
use Rattle.sl_simulation.proofs.HostSteps.{host-stays}
use Rattle.sl_simulation.proofs.hosts.hosts_stay.Goals as goal

pub returns : goal.returns
returns c s lost es a i e o ne h = h ∙ sym (host-stays c.worlds_take_turns.ensures s lost (world s lost es) a i e ne)
