use Rattle.std.proofs.Common.{rules}
use Rattle.sl_link.proofs.Moves.{begins, forks}
use Rattle.sl_link.proofs.ends.make_limited.Goals as goal

pub bounded_with-requires-clause-rule : goal.bounded_with-requires-clause-rule
bounded_with-requires-clause-rule g c = begins

pub another-taker-requires-clause-rule : goal.another-taker-requires-clause-rule
another-taker-requires-clause-rule g c = forks _ _ _ (search rules) (search rules) (search rules)
