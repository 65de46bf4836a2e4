use Rattle.std.proofs.Common.{[], ◌≡◌}
use Rattle.std.specs.Prelude.{replicate}
use Rattle.sl_cut.proofs.history.World.start.Given as goal

abbrev pub invariant-loop-actor : goal.invariant-loop-actor
invariant-loop-actor l = l.items.items ≡ replicate l._actor []
