use Rattle.std.proofs.Common.{◌≡◌, take}
use Rattle.sl_read.proofs.places.copy_devices.Given as goal

abbrev pub invariant-loop-device : goal.invariant-loop-device
invariant-loop-device l = l.found.items ≡ take l.device-index l.devices
