-- Trusted text.
-- The units of a device that have a cable.
--     cabled net d    the egress units of the device d that have a cable, by their places among the units
use Rattle.std.specs.Prelude.{ℕ, Bool, false, ◌&&◌, ◌==◌, List, filter, length, slice_index}
use Rattle.sl_layout.specs.declared.actor.Side.TheVariants.{Egress}
use Rattle.sl_layout.specs.declared.actor.ActorId.{ActorId}
use Rattle.sl_layout.specs.declared.actor.ActorId.TheVariants.{Unit as OfUnit}
use Rattle.sl_parts.specs.Parts.{Parts, below, has_cable}
use Rattle.sl_layout.specs.Net.{Net, same_side, actor_of, units}

-- an egress unit of the device d, at a port where a cable ends
abbrev pub is_cabled : Parts → ℕ → ActorId → Bool
is_cabled parts d (OfUnit u) = same_side u.side Egress && ((u.device == d) && has_cable parts (record { device = u.device; port = u.port }))
is_cabled parts d _ = false

-- the actor's number of the unit at a place
abbrev pub unit_at : Net → ℕ → ℕ
unit_at net i = slice_index (units net) i

abbrev pub cabled : Net → ℕ → List ℕ
cabled net d = filter (λ i. is_cabled net.parts d (actor_of net (unit_at net i))) (below (length (units net)))
