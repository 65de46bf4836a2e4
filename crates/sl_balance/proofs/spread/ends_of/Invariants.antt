use Rattle.std.proofs.Common.{◌≡◌, drop}
use Rattle.sl_balance.specs.Spread.{lowest_of, highest_of}
use Rattle.sl_balance.proofs.spread.ends_of.Given as goal

abbrev pub invariant-loop-count : goal.invariant-loop-count
invariant-loop-count l = record {
  least : lowest_of l.least (drop l.count-index l.others) ≡ lowest_of l.first l.others;
  greatest : highest_of l.greatest (drop l.count-index l.others) ≡ highest_of l.first l.others;
}
