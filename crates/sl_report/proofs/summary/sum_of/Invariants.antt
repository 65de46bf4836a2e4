use Rattle.std.proofs.Common.{◌≡◌, ◌≤◌, ◌*◌, ◌^◌, take, sum}
use Rattle.sl_report.proofs.summary.sum_of.Given as goal

abbrev pub invariant-loop-count : goal.invariant-loop-count
invariant-loop-count l = record {
  sum_so_far : l.total ≡ sum (take l.count-index l.counts);
  small : l.total ≤ l.count-index * 2 ^ 64;
}
