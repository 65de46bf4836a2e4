use Rattle.std.proofs.Common.{◌≡◌, length}
use Rattle.std.specs.Prelude.{filter}
use Rattle.sl_parts.specs.Parts.{below}
use Rattle.sl_balance.specs.Equal.{begins_by}
use Rattle.sl_balance.proofs.equal.count_ports.Given as goal

abbrev pub invariant-loop-port : goal.invariant-loop-port
invariant-loop-port l = l.count ≡ length (filter (begins_by l.net.parts l.device l.host l.hops) (below l.port))
