use Rattle.std.proofs.Common.{◌≡◌, take}
use Rattle.sl_flow.specs.Flow.{packets_of}
use Rattle.sl_flow.proofs.packets.packets_of.Given as goal

abbrev pub invariant-loop-flow : goal.invariant-loop-flow
invariant-loop-flow l = l.packets.items ≡ packets_of (take l.flow-index l.flows) l.host
