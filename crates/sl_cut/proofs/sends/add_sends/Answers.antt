use Rattle.std.proofs.lemmas.Grind.{common_steps}
use Rattle.sl_cut.proofs.ForwardPuts.{send_all_more}
use Rattle.std.proofs.Common.{◌++◌, ap, ◌∙◌, arith, take_all, length, ◌<◌}
use Rattle.sl_model.specs.Puts.{send_all}
use Rattle.sl_cut.proofs.sends.add_sends.Goals as goal

pub returns : goal.returns
returns c = c.loop-link.invariant ∙ ap (λ ls. c.args.puts.now.items ++ send_all c.args.message.now ls) (take_all c.loop-link.link-index c.args.links.now (omega arith))

pub loop-link-preserved : goal.loop-link-preserved
loop-link-preserved c = let h : c.loop-link.link-index < length c.args.links.now = omega arith in
    rw (send_all_more c.args.message.now c.args.links.now c.loop-link.link-index h) (grind (arith, common_steps))
