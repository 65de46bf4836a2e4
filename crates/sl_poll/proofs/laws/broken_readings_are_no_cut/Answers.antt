use Rattle.sl_poll.proofs.Cuts.{no_cut}
use Rattle.sl_poll.proofs.laws.broken_readings_are_no_cut.Goals as goal

pub returns : goal.returns
returns c = λ s lost es begin gap. no_cut c.histories_only_grow.ensures c.worlds_take_turns.ensures s lost es begin gap
