use Rattle.std.proofs.Common.{sym, ◌∙◌}
use Rattle.sl_simulation.proofs.ObserverWorlds.{other-turn}
use Rattle.sl_simulation.proofs.observers.observers_stay.Goals as goal

pub returns : goal.returns
returns c s lost table es e o n ne h = h ∙ sym (other-turn c.worlds_take_turns.ensures s lost table es e (c.known_steps_are_made.ensures s n) (c.nets_are_wired.ensures s.net n) ne)
