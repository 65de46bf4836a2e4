use Rattle.std.proofs.Common.{◌≡◌, map}
use Rattle.sl_parts.specs.Parts.{below}
use Rattle.sl_poll.specs.Ways.{first_lane}
use Rattle.sl_poll.proofs.course.list_lanes.Given as goal

abbrev pub invariant-loop-link : goal.invariant-loop-link
invariant-loop-link l = l.lanes.items ≡ map (first_lane l.input) (below l.link)
