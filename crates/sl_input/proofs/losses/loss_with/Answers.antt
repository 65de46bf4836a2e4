use Rattle.std.proofs.Common.{rules}
use borrow.Author.Tests.{tests}
use Rattle.sl_input.proofs.losses.loss_with.Goals as goal

pub returns : goal.returns
returns c = search (tests, rules)
