use Rattle.std.proofs.Common.{rules}
use Rattle.sl_machine.proofs.outputs.Outputs.take_first.Goals as goal

pub returns-else-is_empty-clause-items : goal.returns-else-is_empty-clause-items
returns-else-is_empty-clause-items g c = search rules
