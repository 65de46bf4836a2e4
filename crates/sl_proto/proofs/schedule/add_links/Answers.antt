use Rattle.std.proofs.Common.{arith, ℕ, zero-add}
use Rattle.std.proofs.lemmas.Grind.{common_steps}
use Rattle.std.proofs.lemmas.List.FromFn.{map-range_with_len_more}
use Rattle.sl_proto.proofs.schedule.add_links.Goals as goal

pub loop-choice-preserved : goal.loop-choice-preserved
loop-choice-preserved c = let f : ℕ → ℕ × ℕ = λ k. (c.args.actor, k) in rw (map-range_with_len_more f 0 c.loop-choice.choice _ (zero-add c.loop-choice.choice)) (grind (arith, common_steps))
