use Rattle.std.proofs.Common.{rules}
use Rattle.sl_app.proofs.top.speedlight.Goals as goal

pub returns-in-Ok-clause-ends : goal.returns-in-Ok-clause-ends
returns-in-Ok-clause-ends c = search rules
