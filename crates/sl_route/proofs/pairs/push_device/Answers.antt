use Rattle.sl_parts.proofs.Lists.{walk_more}
use Rattle.sl_route.proofs.pairs.push_device.Goals as goal

pub loop-host-preserved : goal.loop-host-preserved
loop-host-preserved g c = walk_more (g.T.PairText.text c.args.net.now.parts c.args.device) c.loop-host.host _ _ _ c.in_ok-push.ensures c.loop-host.invariant
