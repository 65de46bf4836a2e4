use Rattle.std.proofs.Common.{◌≡◌}
use Rattle.std.specs.Prelude.{filter}
use Rattle.sl_parts.specs.Parts.{below, is_used}
use Rattle.sl_layout.proofs.layout.device_ports.Given as goal

abbrev pub invariant-loop-port : goal.invariant-loop-port
invariant-loop-port l = l.items.items ≡ filter (λ p. is_used l.parts (record { device = l.device; port = p })) (below l.port)
