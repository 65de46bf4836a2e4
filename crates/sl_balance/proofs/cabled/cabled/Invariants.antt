use Rattle.std.proofs.Common.{◌≡◌}
use Rattle.std.specs.Prelude.{filter}
use Rattle.sl_parts.specs.Parts.{below}
use Rattle.sl_layout.specs.Net.{actor_of}
use Rattle.sl_balance.specs.Cabled.{is_cabled, unit_at}
use Rattle.sl_balance.proofs.cabled.cabled.Given as goal

abbrev pub invariant-loop-place : goal.invariant-loop-place
invariant-loop-place l = l.places.items ≡ filter (λ i. is_cabled l.net.parts l.device (actor_of l.net (unit_at l.net i))) (below l.place)
