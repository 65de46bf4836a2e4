use Rattle.std.proofs.Common.{rules}
use borrow.Author.Tests.{tests}
use Rattle.sl_app.proofs.top.report.Goals as goal

pub returns : goal.returns
returns c = search (tests, rules)
