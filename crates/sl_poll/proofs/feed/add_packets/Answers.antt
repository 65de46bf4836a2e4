use Rattle.std.proofs.Common.{◌++◌, ap, ◌∙◌, arith, take_all}
use Rattle.std.proofs.lemmas.Grind.{common_steps}
use Rattle.sl_poll.specs.Ways.{packets_in}
use Rattle.sl_poll.proofs.feed.add_packets.Goals as goal

pub returns : goal.returns
returns c = c.loop-packet.invariant ∙ ap (λ ps. c.args.frames.now.items ++ packets_in ps) (take_all c.loop-packet.packet-index c.args.packets.now (omega arith))

pub loop-packet-preserved : goal.loop-packet-preserved
loop-packet-preserved c = grind (arith, common_steps)
