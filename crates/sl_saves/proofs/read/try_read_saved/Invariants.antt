use Rattle.std.proofs.Common.{◌-◌}
use Rattle.sl_saves.proofs.Walking.{IsWalking}
use Rattle.sl_saves.proofs.read.try_read_saved.Given as goal

abbrev pub invariant-loop-slot : goal.invariant-loop-slot
invariant-loop-slot l = IsWalking l.view l.id l.k l.number l.place l.bad

abbrev pub decreases-loop-slot : goal.decreases-loop-slot
decreases-loop-slot l = l.number - l.k
