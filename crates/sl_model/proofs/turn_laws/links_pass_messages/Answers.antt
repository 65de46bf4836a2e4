use Rattle.sl_model.proofs.Worlds.Passing.{passes-messages}
use Rattle.sl_model.proofs.turn_laws.links_pass_messages.Goals as goal

pub returns : goal.returns
returns c = passes-messages
