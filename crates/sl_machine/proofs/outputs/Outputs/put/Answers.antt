use Rattle.std.proofs.Common.{ap}
use Rattle.sl_machine.specs.Machine.{Puts}
use Rattle.sl_machine.proofs.outputs.Outputs.put.Goals as goal

pub returns-clause-items : goal.returns-clause-items
returns-clause-items g c = let same = ap (λ (p : Puts g.row.M.Denot). p.items) c.self.view_is in cc
