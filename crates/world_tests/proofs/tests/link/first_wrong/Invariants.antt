use Rattle.std.proofs.Common.{◌≡◌}
use Rattle.world_tests.proofs.tests.link.first_wrong.Given as goal

abbrev pub invariant-loop-i : goal.invariant-loop-i
invariant-loop-i g l = (l.ends.0.channel ≡ l.fn.ends.0.channel) × (l.ends.1.channel ≡ l.fn.ends.1.channel)
