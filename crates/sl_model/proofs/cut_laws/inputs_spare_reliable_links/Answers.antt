use Rattle.sl_model.proofs.Worlds.Spared.{spared}
use Rattle.sl_model.proofs.cut_laws.inputs_spare_reliable_links.Goals as goal

pub returns : goal.returns
returns c i = spared i
