use Rattle.sl_model.proofs.Worlds.Passing.{takes-turns}
use Rattle.sl_model.proofs.turn_laws.worlds_take_turns.Goals as goal

pub returns : goal.returns
returns c = takes-turns
