use Rattle.std.proofs.Common.{rules}
use Rattle.sl_balance.proofs.lines.push_finding.Goals as goal

pub push_lines-requires-clause-small : goal.push_lines-requires-clause-small
push_lines-requires-clause-small c = search rules

pub returns-in-Consistent : goal.returns-in-Consistent
returns-in-Consistent c = search rules
