use Rattle.std.proofs.Common.{rules}
use borrow.Author.Tests.{tests}
use Rattle.sl_world.proofs.line.Line.put.Goals as goal

pub returns-clause-line : goal.returns-clause-line
returns-clause-line g c = search (tests, rules)
