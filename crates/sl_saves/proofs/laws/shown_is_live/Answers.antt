use Rattle.sl_saves.proofs.Walks.{shown-live}
use Rattle.sl_saves.proofs.laws.shown_is_live.Goals as goal

pub returns : goal.returns
returns c = shown-live
