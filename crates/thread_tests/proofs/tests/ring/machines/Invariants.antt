use Rattle.std.proofs.Common.{◌≡◌, length, map}
use Rattle.thread_tests.specs.Ring.{passer_state}
use Rattle.thread_tests.proofs.tests.ring.machines.Given as goal

abbrev pub invariant-loop-actor : goal.invariant-loop-actor
invariant-loop-actor l = (length l.machines.items ≡ l.actor) × (map passer_state l.alike.items ≡ map passer_state l.machines.items)
