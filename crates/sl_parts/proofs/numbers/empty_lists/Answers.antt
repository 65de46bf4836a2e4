use Rattle.std.proofs.Common.{arith, zero-add}
use Rattle.std.proofs.lemmas.Grind.{common_steps}
use Rattle.std.proofs.lemmas.List.FromFn.{map-range_with_len_more}
use Rattle.sl_parts.proofs.numbers.empty_lists.Goals as goal

pub loop-i-preserved : goal.loop-i-preserved
loop-i-preserved g c = rw (map-range_with_len_more _ 0 c.loop-i._i _ (zero-add c.loop-i._i)) (grind (arith, common_steps))
