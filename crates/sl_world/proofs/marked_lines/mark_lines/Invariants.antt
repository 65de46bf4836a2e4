use Rattle.sl_world.proofs.MarkLemmas.{MarksFirst}
use Rattle.sl_world.proofs.marked_lines.mark_lines.Given as goal

abbrev pub invariant-loop-link : goal.invariant-loop-link
invariant-loop-link g l = MarksFirst l.lines l.link l.filled
