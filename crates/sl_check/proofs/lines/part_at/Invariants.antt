use Rattle.std.proofs.Common.{length}
use Rattle.sl_check.proofs.LineLemmas.{Passed}
use Rattle.sl_check.proofs.lines.part_at.Given as goal

abbrev pub invariant-loop-line : goal.invariant-loop-line
invariant-loop-line l = Passed l.mark l.text l.at l.rest

abbrev pub decreases-loop-line : goal.decreases-loop-line
decreases-loop-line l = length l.rest
