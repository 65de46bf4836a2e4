use Rattle.std.proofs.Common.{◌∙◌}
use Rattle.sl_value.specs.Outcome.{world_after}
use Rattle.sl_value.specs.Verdicts.{value_finding}
use Rattle.sl_value.proofs.Listed.{next-number}
use Rattle.sl_value.proofs.tell.list.Goals as goal

pub loop-done-preserved : goal.loop-done-preserved
loop-done-preserved c = c.in_ok-push.ensures.items
    ∙ next-number (value_finding c.args.world.now.input.net (world_after c.args.world.now)) c.loop-done.done c.loop-done.items.items c.in_ok-one.one c.loop-done.invariant c.in_ok-one.ensures
