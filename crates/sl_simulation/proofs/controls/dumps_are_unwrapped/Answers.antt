use Rattle.sl_simulation.proofs.ControlTurns.{dumps-unwrapped}
use Rattle.sl_simulation.proofs.controls.dumps_are_unwrapped.Goals as goal

pub returns : goal.returns
returns c s lost es e n sizes step d h p = dumps-unwrapped c.numbers_near_are_unwrapped.ensures s lost es e n sizes step d p (c.dumps_bring_rows.ensures s lost es e n step h.net h.next h.taken)
