use Rattle.std.proofs.Common.{rules}
use borrow.Author.Tests.{tests}
use Rattle.sl_control.proofs.known.Known.floor_of.Goals as goal

pub returns-then-self : goal.returns-then-self
returns-then-self c = search (tests, rules)
