use Rattle.std.proofs.Common.{◌≡◌, ◌-◌, ◌<◌, arith, refl}
use Rattle.std.proofs.lemmas.Nat.{mod_below, pow_pos}
use Rattle.sl_ids.specs.Ids.{modulus, wrapped, distance}
use Rattle.sl_ids.proofs.Distances.{distance-wrapped, wrapped-distance}
use Rattle.sl_ids.proofs.wid.unwrap_from.Goals as goal

pub returns-clause-wraps : goal.returns-clause-wraps
returns-clause-wraps c = rw c.distance_from.ensures (wrapped-distance c.args.width.bits c.args.base c.args.w.raw c.requires.wid)

pub returns-clause-only : goal.returns-clause-only
returns-clause-only c n low high at_n =
    let d : distance c.args.width.bits (wrapped c.args.width.bits c.args.base) c.args.w.raw ≡ n - c.args.base = rw at_n at (distance-wrapped c.args.width.bits c.args.base n low high) in
    omega (arith, c.distance_from.ensures, d, low)

pub returns-clause-value : goal.returns-clause-value
returns-clause-value c = rw c.distance_from.ensures refl

pub returns-clause-from : goal.returns-clause-from
returns-clause-from c = omega arith

pub returns-clause-near : goal.returns-clause-near
returns-clause-near c =
    let below : distance c.args.width.bits (wrapped c.args.width.bits c.args.base) c.args.w.raw < modulus c.args.width.bits = mod_below _ _ (pow_pos c.args.width.bits) in
    omega (arith, c.distance_from.ensures, below)
