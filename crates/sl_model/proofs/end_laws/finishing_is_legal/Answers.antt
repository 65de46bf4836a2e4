use Rattle.sl_model.proofs.Worlds.Legal.{fin_legal}
use Rattle.sl_model.proofs.end_laws.finishing_is_legal.Goals as goal

pub returns : goal.returns
returns c = λ s lost w es f. fin_legal f.fuel s lost w es f.finished
