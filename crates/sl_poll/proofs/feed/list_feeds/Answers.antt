use Rattle.std.proofs.Common.{arith, zero-add}
use Rattle.std.proofs.lemmas.Grind.{common_steps}
use Rattle.std.proofs.lemmas.List.FromFn.{map-range_with_len_more}
use Rattle.sl_model.specs.Setup.{setup_of}
use Rattle.sl_poll.specs.Ways.{first_feed}
use Rattle.sl_poll.proofs.feed.list_feeds.Goals as goal

pub loop-actor-preserved : goal.loop-actor-preserved
loop-actor-preserved c = rw (map-range_with_len_more (first_feed (setup_of c.args.input.now)) 0 c.loop-actor.actor _ (zero-add c.loop-actor.actor)) (grind (arith, common_steps))
