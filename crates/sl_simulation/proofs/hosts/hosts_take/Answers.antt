use Rattle.std.proofs.Common.{sym, subst}
use Rattle.std.proofs.lemmas.Option.{get_or_from_slice_get}
use Rattle.sl_layout.specs.declared.actor.ActorId.TheVariants.{Host as OfHost}
use Rattle.sl_layout.specs.Net.{nobody}
use Rattle.sl_host.specs.Host.{host_take}
use Rattle.sl_model.specs.History.{history}
use Rattle.sl_model.specs.World.{turn, world}
use Rattle.sl_simulation.specs.HostImage.{IsHostOf}
use Rattle.sl_simulation.specs.Simulates.{Simulates}
use Rattle.sl_simulation.proofs.HostSteps.{host-takes}
use Rattle.sl_simulation.proofs.hosts.hosts_take.Goals as goal

pub returns : goal.returns
returns c s lost es a choice i sizes b told before step m x o r q l h k = let v = turn s lost (world s lost es) (a, choice) in
    subst (λ o. Simulates (IsHostOf s a i v) s.net sizes (λ u. history v u) a told step.puts (host_take o choice x)) (sym h)
    (host-takes c.worlds_take_turns.ensures s lost es a choice i sizes told step (c.nets_are_wired.ensures s.net r.net) (get_or_from_slice_get s.net.actors a (OfHost i) nobody q) ((c.nets_are_wired.ensures s.net r.net).host_links a i q) r.next b before m x r.taken l k)
