use Rattle.std.proofs.Common.{ap, ◌∙◌, arith, take_all}
use Rattle.std.specs.Prelude.{reverse}
use Rattle.sl_model.specs.History.{put}
use Rattle.sl_cut.proofs.ForwardSteps.{reverse_more}
use Rattle.sl_cut.proofs.tell.put.Goals as goal

pub loop-step-preserved : goal.loop-step-preserved
loop-step-preserved c = grind (arith, reverse_more)

pub returns : goal.returns
returns c = c.loop-step.invariant ∙ ap (λ xs. put c.args.link (reverse xs)) (take_all c.loop-step.step-index c.args.steps.now (omega arith))
