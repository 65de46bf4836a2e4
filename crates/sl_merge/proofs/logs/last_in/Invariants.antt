use Rattle.std.proofs.Common.{◌≤◌, take, All}
use Rattle.sl_merge.proofs.logs.last_in.Given as goal

abbrev pub invariant-loop-log : goal.invariant-loop-log
invariant-loop-log l = All (λ log. All (λ p. p.0 ≤ l.last) log.items) (take l.log-index l.logs)
