use Rattle.std.proofs.Common.{◌≡◌, map}
use Rattle.sl_parts.specs.Parts.{below}
use Rattle.sl_layout.specs.Wiring.{wired_link}
use Rattle.sl_layout.proofs.wiring.list_wired.Given as goal

abbrev pub invariant-loop-i : goal.invariant-loop-i
invariant-loop-i l = l.links.items ≡ map (wired_link l.wires) (below l.i)
