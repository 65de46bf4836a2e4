use Rattle.std.proofs.Common.{◌≡◌, ◌++◌, take}
use Rattle.sl_poll.specs.Ways.{packets_in}
use Rattle.sl_poll.proofs.feed.add_packets.Given as goal

abbrev pub invariant-loop-packet : goal.invariant-loop-packet
invariant-loop-packet l = l.frames.items ≡ l.fn.frames.items ++ packets_in (take l.packet-index l.packets)
