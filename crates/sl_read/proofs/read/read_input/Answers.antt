use Rattle.std.proofs.Common.{ap}
use Rattle.sl_read.specs.Inputs.{numbered}
use Rattle.sl_read.proofs.Settled.{accepted}
use Rattle.sl_read.proofs.read.read_input.Goals as goal

pub returns-in-Ok-clause-accepted : goal.returns-in-Ok-clause-accepted
returns-in-Ok-clause-accepted c = accepted c.args.bytes.now _ (ap numbered c.in-Ok.ensures)

pub returns-in-Ok-clause-fault : goal.returns-in-Ok-clause-fault
returns-in-Ok-clause-fault c = tt
