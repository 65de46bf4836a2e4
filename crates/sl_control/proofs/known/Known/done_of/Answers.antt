use Rattle.std.proofs.Common.{rules}
use borrow.Author.Tests.{tests}
use Rattle.sl_control.proofs.known.Known.done_of.Goals as goal

pub returns : goal.returns
returns c = search (tests, rules)
