use Rattle.std.proofs.Common.{◌≡◌, map}
use Rattle.sl_parts.specs.Parts.{below}
use Rattle.sl_balance.specs.Cabled.{cabled}
use Rattle.sl_balance.proofs.cabled.list_cabled.Given as goal

abbrev pub invariant-loop-device : goal.invariant-loop-device
invariant-loop-device l = l.table.items ≡ map (cabled l.net) (below l.device)
