use Rattle.sl_cut.proofs.ForwardSteps.{on_link_more}
use Rattle.std.proofs.Common.{arith, length, ◌<◌}
use Rattle.std.proofs.lemmas.Grind.{common_steps}
use Rattle.sl_cut.proofs.tell.add_on_link.Goals as goal

pub loop-put-preserved : goal.loop-put-preserved
loop-put-preserved c = let h : c.loop-put.put-index < length c.args.puts.now = omega arith in
    rw (on_link_more c.args.link c.args.puts.now c.loop-put.put-index c.put-item.result h) (rw (← c.put-item.is) (grind (arith, common_steps)))

pub returns : goal.returns
returns c = grind (arith, common_steps)
