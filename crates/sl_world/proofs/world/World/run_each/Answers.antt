use Rattle.std.proofs.Common.{arith, refl}
use Rattle.sl_world.specs.World.{scene}
use Rattle.sl_world.proofs.RunLemmas.{so_far_more, all_run, one_refused}
use Rattle.sl_world.proofs.world.World.run_each.Goals as goal

pub loop-at-preserved : goal.loop-at-preserved
loop-at-preserved g c =
    so_far_more g.A.Machine.rules (scene c.args.self.now) (scene c.loop-at.self) (scene c.turn.new.self) c.args.schedule.now c.loop-at.at (omega arith) c.loop-at.invariant c.in_ok-turn.ensures.after

pub returns-in_err-turn : goal.returns-in_err-turn
returns-in_err-turn g c =
    one_refused g.A.Machine.rules (scene c.args.self.now) (scene c.loop-at.self) (scene c.turn.new.self) c.args.schedule.now c.loop-at.at c.from_residual.result c.loop-at.invariant c.in_err-turn.ensures.err (omega arith) c.from_residual.ensures.0

pub returns : goal.returns
returns g c = all_run g.A.Machine.rules (scene c.args.self.now) (scene c.loop-at.self) (scene c.loop-at.self) c.args.schedule.now c.loop-at.at _ c.loop-at.invariant refl (omega arith)
