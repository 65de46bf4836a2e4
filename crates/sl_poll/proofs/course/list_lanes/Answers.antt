use Rattle.std.proofs.Common.{arith, zero-add}
use Rattle.std.proofs.lemmas.Grind.{common_steps}
use Rattle.std.proofs.lemmas.List.FromFn.{map-range_with_len_more}
use Rattle.sl_poll.specs.Ways.{first_lane}
use Rattle.sl_poll.proofs.course.list_lanes.Goals as goal

pub loop-link-preserved : goal.loop-link-preserved
loop-link-preserved c = rw (map-range_with_len_more (first_lane c.args.input.now) 0 c.loop-link.link _ (zero-add c.loop-link.link)) (grind (arith, common_steps))
