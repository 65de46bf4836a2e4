use Rattle.std.proofs.Common.{rules}
use borrow.Author.Tests.{tests}
use Rattle.sl_control.proofs.known.Known.read.Goals as goal

pub returns-clause-read : goal.returns-clause-read
returns-clause-read c = search (tests, rules)

pub returns-clause-rows : goal.returns-clause-rows
returns-clause-rows c = search (tests, rules)
