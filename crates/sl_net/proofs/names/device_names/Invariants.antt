use Rattle.std.proofs.Common.{ℕ, ◌<◌, get_or}
use Rattle.sl_parts.specs.declared.parts.DevicePart.{DevicePart}
use Rattle.sl_parts.specs.Text.{IsName}
use Rattle.sl_net.proofs.names.device_names.Given as goal

abbrev pub invariant-loop-device : goal.invariant-loop-device
invariant-loop-device l = (k : ℕ) → k < l.device-index → (d : DevicePart) → IsName (get_or l.devices k d).name
