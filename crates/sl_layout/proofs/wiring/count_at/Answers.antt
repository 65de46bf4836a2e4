use Rattle.std.proofs.Common.{length, arith, zero-add}
use Rattle.std.proofs.lemmas.Grind.{common_steps}
use Rattle.std.proofs.lemmas.List.FromFn.{map-range_with_len_more}
use Rattle.sl_layout.specs.Ends.{links_at}
use Rattle.sl_layout.proofs.wiring.count_at.Goals as goal

pub loop-actor-preserved : goal.loop-actor-preserved
loop-actor-preserved c = rw (map-range_with_len_more (λ a. length (links_at c.args.wires.now c.args.end a)) 0 c.loop-actor.actor _ (zero-add c.loop-actor.actor)) (grind (arith, common_steps))
