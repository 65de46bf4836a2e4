use Rattle.std.proofs.Common.{◌≡◌, replicate, None}
use Rattle.sl_route.proofs.search.begin.Given as goal

abbrev pub invariant-loop-place : goal.invariant-loop-place
invariant-loop-place l = l.far.items ≡ replicate l._place None
