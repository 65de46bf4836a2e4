use Rattle.std.proofs.Common.{◌≡◌, map}
use Rattle.sl_parts.specs.Parts.{below}
use Rattle.sl_model.specs.Losses.{loss_on}
use Rattle.sl_proto.proofs.losses.make_losses.Given as goal

abbrev pub invariant-loop-link : goal.invariant-loop-link
invariant-loop-link l = l.made.items ≡ map (loss_on l.input) (below l.link)
