use Rattle.std.proofs.Common.{rules}
use Rattle.sl_check.proofs.check.is_report.Goals as goal

pub returns : goal.returns
returns c = search rules
