use Rattle.std.proofs.Common.{◌≡◌, ◌+◌, drop, map}
use Rattle.std.specs.List.{sum}
use Rattle.sl_read.proofs.read.flow_packets.Given as goal

abbrev pub invariant-loop-flow : goal.invariant-loop-flow
invariant-loop-flow l = l.total + sum (map (λ f. f.count) (drop l.flow-index l.flows)) ≡ sum (map (λ f. f.count) l.flows)
