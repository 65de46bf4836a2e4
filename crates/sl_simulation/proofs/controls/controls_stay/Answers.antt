use Rattle.sl_simulation.proofs.ControlSteps.{stays}
use Rattle.sl_simulation.proofs.controls.controls_stay.Goals as goal

pub returns : goal.returns
returns c s lost es e a sizes t n ne r = stays c.worlds_take_turns.ensures s lost es e a sizes t (c.known_steps_are_made.ensures s n) (c.nets_are_wired.ensures s.net n) ne r
