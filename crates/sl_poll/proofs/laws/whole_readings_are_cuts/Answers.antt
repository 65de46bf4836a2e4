use Rattle.sl_poll.proofs.Cuts.{whole}
use Rattle.sl_poll.proofs.laws.whole_readings_are_cuts.Goals as goal

pub returns : goal.returns
returns c = λ s lost es begin gap. whole c.histories_only_grow.ensures c.worlds_take_turns.ensures s lost es begin gap
