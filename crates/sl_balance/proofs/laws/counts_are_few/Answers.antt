use Rattle.sl_balance.proofs.OneCuts.{few-findings}
use Rattle.sl_balance.proofs.laws.counts_are_few.Goals as goal

pub returns : goal.returns
returns c = λ s lost es small. few-findings c.counts_fit.ensures.packets s lost es (c.worlds_take_turns.ensures.few s lost es) small
