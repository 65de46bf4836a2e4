use Rattle.std.proofs.Common.{◌≡◌, map}
use Rattle.sl_parts.specs.Parts.{below}
use Rattle.sl_poll.specs.Reading.{read_after}
use Rattle.sl_poll.specs.Sums.{read_of_sum}
use Rattle.sl_poll.proofs.sums.list_reads.Given as goal

abbrev pub invariant-loop-place : goal.invariant-loop-place
invariant-loop-place l = l.reads.items ≡ map (read_of_sum (read_after l.pace.count l.pace.start l.pace.gap) l.sums) (below l.place)
