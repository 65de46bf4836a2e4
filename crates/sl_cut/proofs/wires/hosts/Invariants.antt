use Rattle.sl_layout.specs.Net.{actor_of, is_host}
use Rattle.sl_parts.specs.Parts.{below}
use Rattle.std.proofs.Common.{◌≡◌}
use Rattle.std.specs.Prelude.{filter}
use Rattle.sl_cut.proofs.wires.hosts.Given as goal

abbrev pub invariant-loop-actor : goal.invariant-loop-actor
invariant-loop-actor l = l.hosts.items ≡ filter (λ a. is_host (actor_of l.net a)) (below l.actor)
