use Rattle.sl_model.specs.World.{world}
use Rattle.sl_proto.proofs.Spread.{spread-from, spread-one}
use Rattle.sl_proto.proofs.laws.steps_spread_their_puts.Goals as goal

pub returns-clause-from : goal.returns-clause-from
returns-clause-from c s lost es e step n k = spread-from c.worlds_take_turns.ensures s lost (world s lost es) e step (c.nets_are_wired.ensures s.net n) k

pub returns-clause-one : goal.returns-clause-one
returns-clause-one c s lost es e step l n k = spread-one c.worlds_take_turns.ensures s lost (world s lost es) e step l (c.nets_are_wired.ensures s.net n) k
