use Rattle.std.proofs.Common.{◌≡◌, map}
use Rattle.sl_parts.specs.Parts.{below, used_ports}
use Rattle.sl_layout.proofs.layout.all_ports.Given as goal

abbrev pub invariant-loop-device : goal.invariant-loop-device
invariant-loop-device l = l.used.items ≡ map (used_ports l.parts) (below l.device)
