use Rattle.std.proofs.Common.{◌≡◌, length}
use Rattle.std.specs.List.{All}
use Rattle.sl_loss.specs.Loss.{IsFresh}
use Rattle.thread_tests.proofs.tests.ring.losses.Given as goal

abbrev pub invariant-loop-link : goal.invariant-loop-link
invariant-loop-link l = record { long : length l.losses.items ≡ l.link; fresh : All IsFresh l.losses.items }
