use Rattle.std.proofs.Common.{◌≡◌, length, take}
use Rattle.std.specs.Prelude.{filter}
use Rattle.sl_poll.specs.Lanes.{AreFew, put_each}
use Rattle.sl_poll.specs.Ways.{leads}
use Rattle.sl_poll.proofs.course.put_all.Given as goal

abbrev pub invariant-loop-link : goal.invariant-loop-link
invariant-loop-link l = record {
  lanes : l.lanes.items ≡ put_each l.mark (filter (leads l.net l.way) (take l.link-index l.link-items)) l.fn.lanes.items;
  few : AreFew l.lanes.items;
  each : length l.lanes.items ≡ length l.net.links;
}
