use Rattle.sl_parts.specs.Parts.{below}
use Rattle.std.proofs.Common.{◌≡◌}
use Rattle.sl_emul.proofs.threaded.tried_by.Given as goal

abbrev pub invariant-loop-link : goal.invariant-loop-link
invariant-loop-link l = l.plan.items ≡ below l.link
