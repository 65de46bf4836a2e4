use Rattle.std.proofs.Common.{◌≡◌, sym, subst, None}
use Rattle.sl_observe.specs.Observer.{observer_act}
use Rattle.sl_model.specs.History.{history}
use Rattle.sl_model.specs.World.{turn, world}
use Rattle.sl_simulation.specs.Simulates.{ActSimulates}
use Rattle.sl_simulation.specs.ObserverImage.{IsObserverOf}
use Rattle.sl_simulation.proofs.ObserverAccounts.{acts, idle}
use Rattle.sl_simulation.proofs.observers.observers_act.Goals as goal

pub returns-clause-did : goal.returns-clause-did
returns-clause-did c s lost table es choice sizes told step o n f h q e = let v = turn s lost (world s lost es) (0, choice) in
    subst (λ o. ActSimulates (IsObserverOf s.net table v) s.net sizes (λ u. history v u) 0 told step.puts (observer_act o choice)) (sym h)
    (acts c.worlds_take_turns.ensures s lost table es choice sizes told step (c.nets_are_wired.ensures s.net n) f (c.begins_take_all_links.ensures s.net n) q e)

pub returns-clause-idle : goal.returns-clause-idle
returns-clause-idle c s lost table es choice o n f h q low high = subst (λ o. observer_act o choice ≡ None) (sym h) (idle s lost table (world s lost es) choice n f q low high)
