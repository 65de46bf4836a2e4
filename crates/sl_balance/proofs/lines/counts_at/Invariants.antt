use Rattle.std.proofs.Common.{◌≡◌, ◌<◌, ◌^◌, take, map}
use Rattle.std.specs.List.{All}
use Rattle.sl_balance.specs.Balance.{packets_at}
use Rattle.sl_balance.proofs.lines.counts_at.Given as goal

abbrev pub invariant-loop-place : goal.invariant-loop-place
invariant-loop-place l = record {
  counts : l.counts.items ≡ map (packets_at l.rows) (take l.place-index l.places);
  few : All (λ n. n < 2 ^ 40) l.counts.items;
}
