use Rattle.std.proofs.Common.{◌≡◌, replicate}
use Rattle.sl_parts.proofs.table.filled.Given as goal

abbrev pub invariant-loop-i : goal.invariant-loop-i
invariant-loop-i g l = l.table.items ≡ replicate l._i l.value
