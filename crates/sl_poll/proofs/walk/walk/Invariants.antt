use Rattle.std.proofs.Common.{◌≡◌}
use Rattle.sl_poll.specs.Lanes.{AreFew}
use Rattle.sl_poll.proofs.Traced.{Walked}
use Rattle.sl_poll.proofs.walk.walk.Given as goal

abbrev pub invariant-loop-actor : goal.invariant-loop-actor
invariant-loop-actor g l = record {
  walked : Walked g.L.Listener.heard l.fn.listener l.listener l.input l.schedule l.actor-index l.course.lanes.items l.course.feeds.items;
  few : AreFew l.course.lanes.items;
  entry : l.entry ≡ l.actor-index;
}
