use Rattle.std.proofs.Common.{arith}
use Rattle.std.proofs.lemmas.Grind.{common_steps}
use Rattle.sl_layout.specs.Net.{link_of, same_sort}
use Rattle.sl_model.specs.Findings.{lost_on}
use Rattle.sl_model.specs.Losses.{losses}
use Rattle.sl_model.proofs.Lists.Weighed.{weigh_below_more}
use Rattle.sl_cut.proofs.lost.lost_of.Goals as goal

pub loop-link-preserved : goal.loop-link-preserved
loop-link-preserved c = rw (weigh_below_more (lost_on c.args.input.now.net (losses c.args.input.now) c.args.world.now) (λ k. same_sort (link_of c.args.input.now.net k).sort c.args.sort) c.loop-link.link) (grind (arith, common_steps))

pub returns : goal.returns
returns c = grind (arith, common_steps)
