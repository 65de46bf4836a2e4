use Rattle.std.proofs.Common.{◌≡◌, ℕ, ◌+◌, ◌-◌, ◌<◌, arith}
use Rattle.std.proofs.Math.Nat.{mod-eq_of_lt}
use Rattle.sl_ids.specs.Ids.{modulus, distance}
use Rattle.sl_ids.proofs.Distances.{distance-wrapped}
use Rattle.sl_ids.proofs.wid.distance.Goals as goal

past : (bits from to : ℕ) → to < from → from < modulus bits → distance bits from to ≡ to + modulus bits - from
past bits from to l h = mod-eq_of_lt (omega (arith, l, h))

pub returns-else-from-to-clause-value : goal.returns-else-from-to-clause-value
returns-else-from-to-clause-value c =
    let e : distance c.args.width.bits c.args.from.raw c.args.to.raw ≡ c.args.to.raw + modulus c.args.width.bits - c.args.from.raw = past _ _ _ c.if-from-to.false c.requires.from in
    omega arith

pub returns-else-from-to-clause-below : goal.returns-else-from-to-clause-below
returns-else-from-to-clause-below c = omega arith

pub returns-else-from-to-clause-numbers : goal.returns-else-from-to-clause-numbers
returns-else-from-to-clause-numbers c a b at_a at_b low high =
    let e : distance c.args.width.bits c.args.from.raw c.args.to.raw ≡ c.args.to.raw + modulus c.args.width.bits - c.args.from.raw = past _ _ _ c.if-from-to.false c.requires.from in
    let d = rw (at_a, at_b) at (distance-wrapped c.args.width.bits a b low high) in
    omega arith
