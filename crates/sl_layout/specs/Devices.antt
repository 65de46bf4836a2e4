-- Trusted text.
-- The devices of units.
use Rattle.std.specs.Prelude.{ℕ}
use Rattle.sl_layout.specs.declared.actor.ActorId.{ActorId}
use Rattle.sl_layout.specs.declared.actor.ActorId.TheVariants.{Unit as OfUnit}

-- the device of a unit, 0 for any other actor
abbrev pub device_of : ActorId → ℕ
device_of (OfUnit u) = u.device
device_of _ = 0
