use Rattle.sl_balance.proofs.Sums.{square-fits, spread-is}
use Rattle.sl_balance.proofs.spread.spread_of.Goals as goal

pub overflow_sub-result : goal.overflow_sub-result
overflow_sub-result c = square-fits c.args.counts.now c.loop-count.count-index _ _ c.loop-count-test.false c.loop-count.invariant.sum_so_far c.loop-count.invariant.squares_so_far

pub returns : goal.returns
returns c = spread-is c.args.counts.now c.loop-count.count-index _ _ c.loop-count-test.false c.loop-count.invariant.sum_so_far c.loop-count.invariant.squares_so_far
