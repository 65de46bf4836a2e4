use Rattle.std.proofs.Common.{length, ap}
use Rattle.sl_simulation.proofs.hosts.hosts_have_two_links.Goals as goal

pub returns-clause-ins : goal.returns-clause-ins
returns-clause-ins c net a i n q = ((c.nets_are_wired.ensures net n).host_links a i q).one_in

pub returns-clause-outs : goal.returns-clause-outs
returns-clause-outs c net a i n q = ap length ((c.nets_are_wired.ensures net n).host_links a i q).outs
