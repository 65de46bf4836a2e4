use Rattle.std.proofs.Common.{rules}
use Rattle.sl_read.proofs.device.DevicePartRow.read.Goals as goal

pub returns-in_err-name : goal.returns-in_err-name
returns-in_err-name c = search rules

pub returns-in_err-ports : goal.returns-in_err-ports
returns-in_err-ports c = search rules
