use Rattle.std.proofs.Common.{◌≡◌, ◌∷◌, map}
use Rattle.sl_parts.specs.Parts.{below}
use Rattle.sl_flow.specs.Sample.{spine, leaf}
use Rattle.sl_flow.proofs.leaf_spine.devices.Given as goal

abbrev pub invariant-loop-i : goal.invariant-loop-i
invariant-loop-i l = l.parts.items ≡ spine l.leaves 0 ∷ spine l.leaves 1 ∷ map leaf (below l.i)
