use Rattle.std.proofs.Common.{[], take}
use Rattle.sl_poll.specs.Hearing.{Hears}
use Rattle.sl_poll.proofs.poll.tell_counts.Given as goal

abbrev pub invariant-loop-one : goal.invariant-loop-one
invariant-loop-one g l = Hears g.L.Listener.heard l.net l.fn.listener l.listener [] (take l.one-index l.counted)
