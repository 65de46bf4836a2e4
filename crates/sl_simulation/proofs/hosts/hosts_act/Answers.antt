use Rattle.std.proofs.Common.{◌≡◌, sym, subst, None}
use Rattle.std.proofs.lemmas.Option.{get_or_from_slice_get}
use Rattle.sl_layout.specs.declared.actor.ActorId.TheVariants.{Host as OfHost}
use Rattle.sl_layout.specs.Net.{action_choice, nobody}
use Rattle.sl_host.specs.Host.{host_act}
use Rattle.sl_model.specs.History.{history}
use Rattle.sl_model.specs.World.{turn, world}
use Rattle.sl_simulation.specs.HostImage.{IsHostOf}
use Rattle.sl_simulation.specs.Simulates.{ActSimulates}
use Rattle.sl_simulation.proofs.HostSteps.{host-acts, host-idle}
use Rattle.sl_simulation.proofs.hosts.hosts_act.Goals as goal

pub returns-clause-did : goal.returns-clause-did
returns-clause-did c s lost es a choice i sizes told step o n q h y e = let v = turn s lost (world s lost es) (a, choice) in
    subst (λ o. ActSimulates (IsHostOf s a i v) s.net sizes (λ u. history v u) a told step.puts (host_act o choice)) (sym h)
    (host-acts c.worlds_take_turns.ensures s lost es a choice i sizes told step (c.nets_are_wired.ensures s.net n) (get_or_from_slice_get s.net.actors a (OfHost i) nobody q) ((c.nets_are_wired.ensures s.net n).host_links a i q) y e)

pub returns-clause-idle : goal.returns-clause-idle
returns-clause-idle c s lost es a i o q h y = subst (λ o. host_act o (action_choice s.net a) ≡ None) (sym h) (host-idle s lost (world s lost es) a i q y)
