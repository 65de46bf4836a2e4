use Rattle.sl_model.specs.History.{history}
use Rattle.sl_value.proofs.Answered.{answers-as-told}
use Rattle.sl_value.proofs.meaning.values_are_those_collected.Goals as goal

pub returns : goal.returns
returns c s table w a state net stands = answers-as-told s.net (history w) a state.kept (c.nets_are_wired.ensures s.net net) stands.values
