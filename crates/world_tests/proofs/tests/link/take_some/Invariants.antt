use Rattle.std.proofs.Common.{◌≡◌}
use Rattle.world_tests.proofs.tests.link.take_some.Given as goal

abbrev pub invariant-loop-number : goal.invariant-loop-number
invariant-loop-number g l = l.take.channel ≡ l.fn.take.channel

abbrev pub invariant-loop : goal.invariant-loop
invariant-loop g l = l.take.channel ≡ l.fn.take.channel
