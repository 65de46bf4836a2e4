use Rattle.std.proofs.Common.{[], take}
use Rattle.sl_poll.specs.Hearing.{Hears}
use Rattle.sl_poll.proofs.poll.tell_pairs.Given as goal

abbrev pub invariant-loop-pair : goal.invariant-loop-pair
invariant-loop-pair g l = Hears g.L.Listener.heard l.net l.fn.listener l.listener (take l.pair-index l.pairs) []
