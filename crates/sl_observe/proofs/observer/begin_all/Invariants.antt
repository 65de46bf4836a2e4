use Rattle.std.proofs.Common.{◌≡◌}
use Rattle.sl_observe.specs.Observer.{begins_out}
use Rattle.sl_observe.proofs.observer.begin_all.Given as goal

abbrev pub invariant-loop-link : goal.invariant-loop-link
invariant-loop-link l = record { items : l.out.items ≡ begins_out l.link l.number; room : l.out.room ≡ l.fn.out.room }
