-- The names of devices and hosts.
use Rattle.std.specs.List.{All}
use Rattle.sl_parts.specs.Text.{IsName}
use Rattle.sl_parts.specs.Parts.{Parts}

pub record HasNames (parts : Parts) : Type 0 where
  pub devices : All (λ device. IsName device.name) parts.devices
  pub hosts : All (λ host. IsName host.name) parts.hosts
