-- Trusted text for nodes.
-- The sizes of what dumps hold, as a snapshot table sets them.
use Rattle.std.specs.Prelude.{ℕ}
use Rattle.sl_net.specs.declared.input.Snapshot.{Snapshot}

-- how many bits an id has, how many slots a ring, to how many saved numbers a data packet in flight is credited at most, and the version of
-- frames that leave no cable's end
pub record Sizes : Type 0 where
  pub bits : ℕ
  pub ring : ℕ
  pub credits : ℕ
  pub version : ℕ

abbrev pub sizes_of : Snapshot → Sizes
sizes_of table = record { bits = table.width; ring = table.ring; credits = table.credits; version = table.version }

-- those by which dumps are read
pub record Lengths : Type 0 where
  pub bits : ℕ
  pub ring : ℕ

abbrev pub lengths : Sizes → Lengths
lengths sizes = record { bits = sizes.bits; ring = sizes.ring }
