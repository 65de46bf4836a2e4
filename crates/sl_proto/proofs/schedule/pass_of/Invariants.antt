use Rattle.sl_model.specs.Schedule.{link_entries, pass_actions}
use Rattle.sl_layout.specs.Net.{actor_of}
use Rattle.sl_parts.specs.Parts.{below}
use Rattle.std.proofs.Common.{◌++◌, ◌≡◌}
use Rattle.std.specs.Prelude.{flat_map}
use Rattle.sl_proto.proofs.schedule.pass_of.Given as goal

abbrev pub invariant-loop-actor : goal.invariant-loop-actor
invariant-loop-actor l = l.entries.items ≡ flat_map (λ a. link_entries l.net a ++ pass_actions l.net l.settling a (actor_of l.net a)) (below l.actor)
