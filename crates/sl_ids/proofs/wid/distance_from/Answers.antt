use Rattle.std.proofs.Common.{arith}
use Rattle.std.proofs.lemmas.Nat.{and_mask}
use Rattle.sl_ids.proofs.Distances.{distance-beyond}
use Rattle.sl_ids.proofs.wid.distance_from.Goals as goal

pub returns : goal.returns
returns c =
    let few = c.args.width.most in
    rw (c.from-mask.ensures, c.modulus.ensures, c.from.ensures, and_mask) (distance-beyond c.args.width.bits c.args.base c.args.w.raw (omega (arith, few)) c.ranges.base.fits c.requires)
