use Rattle.sl_model.specs.Schedule.{sweep_of}
use Rattle.sl_layout.specs.Net.{actor_of}
use Rattle.sl_parts.specs.Parts.{below}
use Rattle.std.proofs.Common.{◌≡◌}
use Rattle.std.specs.Prelude.{flat_map}
use Rattle.sl_proto.proofs.schedule.all_sweeps.Given as goal

abbrev pub invariant-loop-actor : goal.invariant-loop-actor
invariant-loop-actor l = l.entries.items ≡ flat_map (λ a. sweep_of l.net a (actor_of l.net a)) (below l.actor)
