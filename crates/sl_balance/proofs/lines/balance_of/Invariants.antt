use Rattle.std.proofs.Common.{◌≡◌, ◌++◌, drop}
use Rattle.std.specs.List.{flat_map}
use Rattle.sl_balance.specs.Balance.{finding_lines}
use Rattle.sl_balance.proofs.lines.balance_of.Given as goal

abbrev pub invariant-loop-finding : goal.invariant-loop-finding
invariant-loop-finding l = l.lines.items ++ flat_map (finding_lines l.input.net) (drop l.finding-index l.finding-items) ≡ flat_map (finding_lines l.input.net) l.finding-items
