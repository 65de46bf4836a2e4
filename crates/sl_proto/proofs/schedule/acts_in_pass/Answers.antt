use Rattle.std.proofs.Common.{rules}
use borrow.Author.Tests.{tests}
use Rattle.sl_proto.proofs.schedule.acts_in_pass.Goals as goal

pub returns-in-Host : goal.returns-in-Host
returns-in-Host c = search (tests, rules)
