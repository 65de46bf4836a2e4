use Rattle.std.proofs.Common.{◌≡◌, length, take}
use Rattle.sl_flow.specs.Share.{all_packets}
use Rattle.sl_flow.proofs.share.count_of.Given as goal

abbrev pub invariant-loop-flow : goal.invariant-loop-flow
invariant-loop-flow l = l.count ≡ length (all_packets (take l.flow-index l.flows))
