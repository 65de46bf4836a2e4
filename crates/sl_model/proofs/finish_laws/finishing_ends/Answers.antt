use Rattle.std.proofs.Common.{arith}
use Rattle.sl_model.specs.Bound.{bound_of}
use Rattle.sl_model.specs.Sweeps.{sweeps_in}
use Rattle.sl_model.proofs.finish_laws.finishing_ends.Goals as goal
use Rattle.sl_model.proofs.Finishing.Enough.{bound-enough}

pub returns : goal.returns
returns c s lost es n = let f = bound-enough s lost es (bound_of s (sweeps_in s.net es)) n (omega arith) in (f.entries, record { fuel = bound_of s (sweeps_in s.net es); finished = f.is })
