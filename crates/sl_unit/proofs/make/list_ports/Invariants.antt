use Rattle.std.proofs.Common.{◌≡◌, map}
use Rattle.sl_parts.specs.Parts.{below}
use Rattle.sl_route.specs.Route.{next_port}
use Rattle.sl_unit.proofs.make.list_ports.Given as goal

abbrev pub invariant-loop-host : goal.invariant-loop-host
invariant-loop-host l = l.ports.items ≡ map (next_port l.net.parts l.device) (below l.host)
