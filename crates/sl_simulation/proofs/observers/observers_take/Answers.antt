use Rattle.std.proofs.Common.{sym, subst}
use Rattle.sl_observe.specs.Observer.{observer_take}
use Rattle.sl_model.specs.History.{history}
use Rattle.sl_model.specs.World.{turn, world}
use Rattle.sl_simulation.specs.Simulates.{Simulates}
use Rattle.sl_simulation.specs.ObserverImage.{IsObserverOf}
use Rattle.sl_simulation.proofs.ObserverWorlds.{takes}
use Rattle.sl_simulation.proofs.observers.observers_take.Goals as goal

pub returns : goal.returns
returns c s lost table es choice sizes a told step m x o r f same h k = let v = turn s lost (world s lost es) (0, choice) in
    subst (λ o. Simulates (IsObserverOf s.net table v) s.net sizes (λ u. history v u) 0 told step.puts (observer_take o choice x)) (sym h)
    (takes c.worlds_take_turns.ensures s lost table es choice sizes a told step (c.known_steps_are_made.ensures s r.net)
    (λ u m i y d. c.dones_bring_rows.ensures s lost es choice u m i step r.net r.next y d) (c.nets_are_wired.ensures s.net r.net) f same r.next m x r.taken k)
