use Rattle.sl_parts.specs.Valid.{AreVersioned}
use Rattle.net_tests.proofs.tests.plan.cables.Given as goal

abbrev pub invariant-loop-a : goal.invariant-loop-a
invariant-loop-a l = AreVersioned l.made.items
