use Rattle.std.proofs.Common.{◌≡◌, map}
use Rattle.sl_parts.specs.Parts.{below}
use Rattle.sl_flow.specs.Sample.{host}
use Rattle.sl_flow.proofs.leaf_spine.hosts.Given as goal

abbrev pub invariant-loop-h : goal.invariant-loop-h
invariant-loop-h l = l.parts.items ≡ map host (below l.h)
