use Rattle.std.proofs.Common.{ap, ◌∙◌}
use Rattle.sl_model.specs.World.{start, world}
use Rattle.sl_model.specs.Verdict.{verdict}
use Rattle.sl_model.proofs.cut_laws.collected_verdicts_stay.Goals as goal
use Rattle.sl_model.proofs.Worlds.Turns.{run-append}
use Rattle.sl_model.proofs.Cuts.Bounds.{all-below}
use Rattle.sl_model.proofs.Cuts.Known.{verdict-stays}

pub returns : goal.returns
returns c s lost es fs k n p =
    let t = c.nets_are_wired.ensures s.net n in
    let b = all-below s lost es t in
    ap (λ v. verdict s.credits s.net v k) (run-append s lost (start s.net) es fs) ∙ verdict-stays s lost (world s lost es) fs k t b.fifo_run b.below p
