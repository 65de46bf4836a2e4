use Rattle.std.proofs.Common.{◌≡◌, length}
use Rattle.sl_unit.specs.Spans.{AreByPort}
use Rattle.sl_unit.proofs.make.spans_by_port.Given as goal

abbrev pub invariant-loop-port : goal.invariant-loop-port
invariant-loop-port l = record { ports : AreByPort l.device l.exits l.port l.spans; many : length l.spans ≡ 8 }
