use Rattle.std.proofs.Common.{◌≡◌, map, length}
use Rattle.sl_parts.specs.Parts.{below}
use Rattle.sl_layout.specs.Ends.{links_at}
use Rattle.sl_layout.proofs.wiring.count_at.Given as goal

abbrev pub invariant-loop-actor : goal.invariant-loop-actor
invariant-loop-actor l = l.counts.items ≡ map (λ a. length (links_at l.wires l.end a)) (below l.actor)
