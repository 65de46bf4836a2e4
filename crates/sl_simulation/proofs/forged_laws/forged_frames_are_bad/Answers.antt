use Rattle.std.proofs.Common.{None}
use Rattle.sl_simulation.proofs.Taken.{host-taken}
use Rattle.sl_simulation.proofs.forged_laws.forged_frames_are_bad.Goals as goal

pub returns : goal.returns
returns c = λ s choice bytes e q. host-taken s choice bytes None e q
