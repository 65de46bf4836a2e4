use Rattle.std.proofs.Common.{◌≡◌, ◌++◌, take}
use Rattle.sl_poll.specs.Ways.{raws_in}
use Rattle.sl_poll.proofs.feed.add_raws.Given as goal

abbrev pub invariant-loop-raw : goal.invariant-loop-raw
invariant-loop-raw l = l.frames.items ≡ l.fn.frames.items ++ raws_in (take l.raw-index l.raws) l.host
