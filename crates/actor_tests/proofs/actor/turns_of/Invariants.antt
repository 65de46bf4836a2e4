use Rattle.std.proofs.Common.{◌+◌, ◌≤◌}
use Rattle.sl_actor.specs.Held.{held}
use Rattle.actor_tests.proofs.actor.turns_of.Given as goal

abbrev pub invariant-loop-choice : goal.invariant-loop-choice
invariant-loop-choice g l = l.choices ≤ (held l.actor).counts.ins + (held l.actor).counts.actions
