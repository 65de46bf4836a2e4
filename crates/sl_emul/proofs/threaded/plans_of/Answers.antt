use Rattle.sl_emul.proofs.Plans.{plan-added}
use Rattle.sl_emul.proofs.threaded.plans_of.Goals as goal

pub loop-actor-preserved : goal.loop-actor-preserved
loop-actor-preserved c = plan-added c.args.net.now c.loop-actor.actor c.loop-actor.plans.items _ c.in_ok-plan.plan c.in_ok-push.ensures.items c.loop-actor.invariant c.in_ok-plan.ensures
