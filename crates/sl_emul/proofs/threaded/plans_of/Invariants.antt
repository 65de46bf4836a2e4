use Rattle.std.specs.Prelude.{map}
use Rattle.sl_parts.specs.Parts.{below}
use Rattle.std.proofs.Common.{◌≡◌}
use Rattle.sl_emul.specs.Threaded.{tried_by}
use Rattle.sl_emul.proofs.threaded.plans_of.Given as goal

abbrev pub invariant-loop-actor : goal.invariant-loop-actor
invariant-loop-actor l = map (λ p. p.items) l.plans.items ≡ map (tried_by l.net) (below l.actor)
