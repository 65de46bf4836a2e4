use Rattle.std.proofs.Common.{◌≡◌, map, take}
use Rattle.sl_unit.specs.Made.{exit_by}
use Rattle.sl_unit.proofs.make.list_exits.Given as goal

abbrev pub invariant-loop-number : goal.invariant-loop-number
invariant-loop-number l = l.exits.items ≡ map (exit_by l.net) (take l.number-index l.number-items)
