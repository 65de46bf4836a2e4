use Rattle.std.proofs.Common.{refl}
use Rattle.sl_wire.specs.Frames.{frame}
use Rattle.sl_wire.proofs.framed.Framed.of.Goals as goal

pub returns : goal.returns
unfolding frame
returns c =
    let front = c.joined.ensures in
    let middle = c.joined-2.ensures in
    let back = c.joined-3.ensures in
    rw (
      front.first,
      front.second,
      front.third,
      front.fourth,
      middle.first,
      middle.second,
      middle.third,
      middle.fourth,
      back.first,
      back.second,
      back.third,
      back.fourth,
      c.pair-begin.ensures.high,
      c.pair-begin.ensures.low,
      c.pair-end.ensures.high,
      c.pair-end.ensures.low,
      c.kind_byte.ensures,
      c.check_of.ensures,
    ) refl
