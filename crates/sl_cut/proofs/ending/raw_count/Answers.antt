use Rattle.std.proofs.Common.{arith}
use Rattle.std.proofs.lemmas.Grind.{common_steps}
use Rattle.std.proofs.lemmas.List.Sums.{count_by_more_yes, count_by_more_no}
use Rattle.sl_cut.proofs.ending.raw_count.Goals as goal

pub loop-raw-preserved : goal.loop-raw-preserved
loop-raw-preserved c = grind (arith, common_steps, count_by_more_yes, count_by_more_no)

pub returns-clause-count : goal.returns-clause-count
returns-clause-count c = grind (arith, common_steps)
