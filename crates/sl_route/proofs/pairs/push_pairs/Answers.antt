use Rattle.std.proofs.Common.{length}
use Rattle.std.specs.List.{flat_map}
use Rattle.sl_parts.specs.Parts.{below}
use Rattle.sl_parts.proofs.Lists.{walk_more}
use Rattle.sl_route.proofs.pairs.push_pairs.Goals as goal

pub loop-device-preserved : goal.loop-device-preserved
loop-device-preserved g c = walk_more (λ d. flat_map (g.T.PairText.text c.args.net.now.parts d) (below (length c.args.net.now.parts.hosts))) c.loop-device.device _ _ _ c.in_ok-push_device.ensures c.loop-device.invariant
