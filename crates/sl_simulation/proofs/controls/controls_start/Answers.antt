use Rattle.sl_simulation.proofs.ControlSteps.{starts, control-place}
use Rattle.sl_simulation.proofs.controls.controls_start.Goals as goal

pub returns-clause-place : goal.returns-clause-place
returns-clause-place c net a d n q = control-place net a d (c.nets_are_wired.ensures net n) q

pub returns-clause-stands : goal.returns-clause-stands
returns-clause-stands c net a sizes = starts c.worlds_take_turns.ensures net a sizes
