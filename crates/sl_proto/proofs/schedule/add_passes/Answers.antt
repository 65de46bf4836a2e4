use Rattle.std.proofs.Common.{arith}
use Rattle.std.proofs.lemmas.Grind.{common_steps}
use Rattle.sl_proto.proofs.Choices.{passes-next}
use Rattle.sl_proto.proofs.schedule.add_passes.Goals as goal

pub loop-done-preserved : goal.loop-done-preserved
loop-done-preserved c = rw (passes-next c.args.once.now c.loop-done._done) (grind (arith, common_steps))
