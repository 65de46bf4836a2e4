use Rattle.std.proofs.Common.{map}
use Rattle.sl_actor.specs.Held.{held}
use Rattle.actor_tests.specs.Lines.{AreUnderWay}
use Rattle.actor_tests.proofs.merge.take_turns.Given as goal

abbrev pub invariant-loop-place : goal.invariant-loop-place
invariant-loop-place g l = AreUnderWay (map held l.actors.items)
