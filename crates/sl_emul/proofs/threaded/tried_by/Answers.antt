use Rattle.sl_parts.proofs.Lists.{below_more}
use Rattle.std.proofs.Common.{arith}
use Rattle.std.proofs.lemmas.Grind.{common_steps}
use Rattle.sl_emul.proofs.threaded.tried_by.Goals as goal

pub loop-link-preserved : goal.loop-link-preserved
loop-link-preserved c = rw (below_more c.loop-link.link) (grind (arith, common_steps))
