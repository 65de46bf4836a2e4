use Rattle.std.proofs.Common.{ap}
use Rattle.sl_io.proofs.in_memory.Calls.fault.Goals as goal

pub returns : goal.returns
returns c = ap (λ n. record c.args.self.now { faults = n }) c.saturating_add-self.ensures
