use Rattle.std.proofs.Common.{◌≡◌, map, take}
use Rattle.sl_parts.specs.Parts.{below}
use Rattle.sl_proto.proofs.Fresh.{drops_of}
use Rattle.sl_proto.proofs.losses.drops_by_link.Given as goal

abbrev pub invariant-loop-drop : goal.invariant-loop-drop
invariant-loop-drop l = l.lists.items ≡ map (drops_of (take l.drop-index l.loss.drops)) (below l.count)
