use Rattle.std.proofs.Common.{◌≡◌, ◌≤◌, ◌*◌, ◌^◌, take}
use Rattle.std.specs.Prelude.{sum, sum_by}
use Rattle.sl_balance.specs.Spread.{square}
use Rattle.sl_balance.proofs.spread.spread_of.Given as goal

abbrev pub invariant-loop-count : goal.invariant-loop-count
invariant-loop-count l = record {
  sum_so_far : l.sum ≡ sum (take l.count-index l.counts);
  squares_so_far : l.squares ≡ sum_by square (take l.count-index l.counts);
  sum_small : l.sum ≤ l.count-index * 2 ^ 40;
  squares_small : l.squares ≤ l.count-index * 2 ^ 80;
}
