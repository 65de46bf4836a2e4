use Rattle.sl_parts.specs.Parts.{below}
use Rattle.std.proofs.Common.{◌++◌, ◌≡◌}
use Rattle.std.specs.Prelude.{map}
use Rattle.sl_proto.proofs.schedule.add_links.Given as goal

abbrev pub invariant-loop-choice : goal.invariant-loop-choice
invariant-loop-choice l = l.entries.items ≡ l.initial.entries.items ++ map (λ c. (l.actor, c)) (below l.choice)
