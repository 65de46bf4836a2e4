use Rattle.thread_tests.specs.Ring.{AreInRing}
use Rattle.thread_tests.proofs.tests.ring.ring_links.Given as goal

abbrev pub invariant-loop-actor : goal.invariant-loop-actor
invariant-loop-actor l = AreInRing l.count l.actor l.links.items
