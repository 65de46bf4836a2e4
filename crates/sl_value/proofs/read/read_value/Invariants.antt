use Rattle.std.proofs.Common.{◌-◌}
use Rattle.sl_value.proofs.Counting.{IsReading}
use Rattle.sl_value.proofs.read.read_value.Given as goal

abbrev pub invariant-loop-number : goal.invariant-loop-number
invariant-loop-number l = IsReading l.view l.id l.k l.number l.place

abbrev pub decreases-loop-number : goal.decreases-loop-number
decreases-loop-number l = l.number - l.k
