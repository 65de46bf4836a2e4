use Rattle.std.proofs.Common.{◌≡◌, ◌-◌, bit_and}
use Rattle.std.proofs.lemmas.Nat.{and_mask, mod_below, pow_pos}
use Rattle.sl_ids.specs.Ids.{wrapped}
use Rattle.sl_ids.proofs.wid.wrap.Goals as goal

pub returns-clause-value : goal.returns-clause-value
returns-clause-value c = rw (c.from-mask.ensures, c.modulus.ensures, and_mask)

pub returns-clause-wid : goal.returns-clause-wid
returns-clause-wid c = let e : bit_and c.args.k (c.from-mask.result - 1) ≡ wrapped c.args.width.bits c.args.k = rw (c.from-mask.ensures, c.modulus.ensures, and_mask) in
    λ i. record { raw = e i }

pub returns-clause-below : goal.returns-clause-below
returns-clause-below c = rw (c.from-mask.ensures, c.modulus.ensures, and_mask) (mod_below _ _ (pow_pos _))
