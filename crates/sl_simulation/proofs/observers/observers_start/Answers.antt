use Rattle.sl_simulation.proofs.ObserverUnits.{observer-start}
use Rattle.sl_simulation.proofs.observers.observers_start.Goals as goal

pub returns : goal.returns
returns c s lost table = observer-start c.worlds_take_turns.ensures s.net table
