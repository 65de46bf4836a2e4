use Rattle.std.proofs.Common.{◌≡◌}
use Rattle.world_tests.proofs.tests.link.put_all.Given as goal

abbrev pub invariant-loop-number : goal.invariant-loop-number
invariant-loop-number g l = l.put.channel ≡ l.fn.put.channel

abbrev pub invariant-loop : goal.invariant-loop
invariant-loop g l = l.put.channel ≡ l.fn.put.channel
