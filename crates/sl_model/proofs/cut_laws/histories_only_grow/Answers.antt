use Rattle.std.proofs.Common.{ap, ◌∙◌}
use Rattle.sl_model.specs.History.{history, first}
use Rattle.sl_model.specs.World.{start, world}
use Rattle.sl_model.proofs.cut_laws.histories_only_grow.Goals as goal
use Rattle.sl_model.proofs.Worlds.Turns.{run-append}
use Rattle.sl_model.proofs.Cuts.Bounds.{extends-run}

pub returns : goal.returns
returns c s lost es fs a n p = ap (λ v. first n (history v a)) (run-append s lost (start s.net) es fs) ∙ (extends-run s lost (world s lost es) fs a).steps n p
