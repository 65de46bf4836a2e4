use Rattle.std.proofs.Common.{rules}
use Rattle.sl_link.proofs.Moves.{words, hears_puts, hears_takes}
use Rattle.sl_link.proofs.ends.tell_each_other.Goals as goal

pub another-puts-requires-clause-rule : goal.another-puts-requires-clause-rule
another-puts-requires-clause-rule g c = words _ _

pub absorb-requires-clause-rule : goal.absorb-requires-clause-rule
absorb-requires-clause-rule g c = hears_puts _ _ _ _ (search rules)

pub another-takes-requires-clause-rule : goal.another-takes-requires-clause-rule
another-takes-requires-clause-rule g c = words _ _

pub absorb-requires-2-clause-rule : goal.absorb-requires-2-clause-rule
absorb-requires-2-clause-rule g c = hears_takes _ _ _ _ (search rules)
