use Rattle.std.proofs.Common.{◌≡◌, ◌++◌, map}
use Rattle.sl_parts.specs.Parts.{below}
use Rattle.sl_flow.specs.Flow.{packet_in}
use Rattle.sl_flow.proofs.packets.add_flow.Given as goal

abbrev pub invariant-loop-number : goal.invariant-loop-number
invariant-loop-number l = l.packets.items ≡ l.fn.packets.items ++ map (packet_in l.flow) (below l.number)
