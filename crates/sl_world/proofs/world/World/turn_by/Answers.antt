use Rattle.sl_world.proofs.RunLemmas.{on_err}
use Rattle.sl_world.proofs.world.World.turn_by.Goals as goal

pub returns-clause-after : goal.returns-clause-after
returns-clause-after g c = c.in_ok-act_turn.ensures.after

pub returns-in_err-act_turn-clause-err : goal.returns-in_err-act_turn-clause-err
returns-in_err-act_turn-clause-err g c = on_err c.from_residual.result c.in_err-act_turn.ensures.err
