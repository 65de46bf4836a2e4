use Rattle.std.proofs.Common.{rules}
use borrow.Author.Tests.{tests}
use Rattle.sl_control.proofs.known.Known.ask.Goals as goal

pub returns-clause-known : goal.returns-clause-known
returns-clause-known c = search (tests, rules)

pub returns-clause-puts : goal.returns-clause-puts
returns-clause-puts c = search (tests, rules)
