use Rattle.std.proofs.Common.{◌≡◌, ◌++◌}
use Rattle.std.specs.List.{flat_map}
use Rattle.sl_parts.specs.Parts.{below}
use Rattle.sl_balance.specs.Balance.{device_line}
use Rattle.sl_balance.proofs.lines.push_lines.Given as goal

abbrev pub invariant-loop-device : goal.invariant-loop-device
invariant-loop-device l = l.lines.items ≡ l.fn.lines.items ++ flat_map (device_line l.net l.k l.rows) (below l.device)
