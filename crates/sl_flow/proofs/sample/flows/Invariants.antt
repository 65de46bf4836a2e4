use Rattle.std.proofs.Common.{◌≡◌, map}
use Rattle.sl_parts.specs.Parts.{below}
use Rattle.sl_flow.specs.Sample.{flow}
use Rattle.sl_flow.proofs.sample.flows.Given as goal

abbrev pub invariant-loop-h : goal.invariant-loop-h
invariant-loop-h l = l.flows.items ≡ map (flow l.n) (below l.h)
