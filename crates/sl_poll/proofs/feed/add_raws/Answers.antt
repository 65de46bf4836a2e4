use Rattle.std.proofs.Common.{◌++◌, ap, ◌∙◌, arith, take_all}
use Rattle.sl_poll.specs.Ways.{raws_in}
use Rattle.sl_poll.proofs.feed.add_raws.Goals as goal

pub returns : goal.returns
returns c = c.loop-raw.invariant ∙ ap (λ rs. c.args.frames.now.items ++ raws_in rs c.args.host) (take_all c.loop-raw.raw-index c.args.raws.now (omega arith))
