use Rattle.sl_simulation.proofs.HostFrames.{host-start}
use Rattle.sl_simulation.proofs.hosts.hosts_start.Goals as goal

pub returns : goal.returns
returns c = host-start c.worlds_take_turns.ensures
