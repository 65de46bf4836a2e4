use Rattle.std.proofs.Common.{rules}
use Rattle.sl_balance.proofs.equal.equal_ports.Goals as goal

pub returns-in-Some-eq0 : goal.returns-in-Some-eq0
returns-in-Some-eq0 c = search rules
