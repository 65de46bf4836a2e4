use Rattle.std.proofs.Common.{◌≡◌, take}
use Rattle.sl_host.specs.Host.{raws_of}
use Rattle.sl_host.proofs.frames.raws_of.Given as goal

abbrev pub invariant-loop-raw : goal.invariant-loop-raw
invariant-loop-raw l = l.frames.items ≡ raws_of (take l.raw-index l.raws) l.host
