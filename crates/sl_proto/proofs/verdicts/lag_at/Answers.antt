use Rattle.std.proofs.Common.{rules}
use borrow.Author.Tests.{tests}
use Rattle.sl_proto.proofs.verdicts.lag_at.Goals as goal

pub returns-then-seen-k : goal.returns-then-seen-k
returns-then-seen-k c = search (tests, rules)
