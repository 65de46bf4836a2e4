use Rattle.std.proofs.Common.{◌≡◌, drop}
use Rattle.sl_observe.specs.Observer.{is_after}
use Rattle.sl_observe.proofs.unit.is_after.Given as goal

abbrev pub invariant-loop-row : goal.invariant-loop-row
invariant-loop-row l = is_after l.number l.rows ≡ is_after l.before (drop l.row-index l.rows)
