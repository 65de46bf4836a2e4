use Rattle.std.proofs.Common.{◌≡◌}
use Rattle.std.specs.Prelude.{filter}
use Rattle.sl_layout.specs.Net.{link_of, same_sort}
use Rattle.sl_parts.specs.Parts.{below}
use Rattle.sl_model.specs.Words.{weigh}
use Rattle.sl_world.specs.World.{scene}
use Rattle.sl_proto.specs.Told.{lost_told}
use Rattle.sl_proto.proofs.gather.lost_of.Given as goal

abbrev pub invariant-loop-link : goal.invariant-loop-link
invariant-loop-link l = l.total ≡ weigh (lost_told (scene l.world)) (filter (λ k. same_sort (link_of l.net k).sort l.sort) (below l.link))
