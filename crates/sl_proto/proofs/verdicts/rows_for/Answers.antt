use Rattle.std.proofs.Common.{sym, ◌∙◌}
use Rattle.sl_proto.proofs.Judged.{values_are}
use Rattle.sl_proto.proofs.verdicts.rows_for.Goals as goal

pub rows-requires-clause-values : goal.rows-requires-clause-values
rows-requires-clause-values c = values_are c.args.net.now c.args.observer.now.state c.args.k c.requires.collected c.requires.first (sym c.requires.verdict ∙ c.in-Consistent.is)
