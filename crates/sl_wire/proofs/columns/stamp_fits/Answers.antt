use Rattle.std.proofs.Common.{refl, arith}
use Rattle.std.proofs.lemmas.Bool.{ne_eqb}
use Rattle.std.proofs.lemmas.Bool.Decides.{Decides-ltb}
use Rattle.sl_ids.specs.Ids.{modulus}
use Rattle.sl_wire.proofs.columns.stamp_fits.Goals as goal

pub returns-else-version-eq2 : goal.returns-else-version-eq2
returns-else-version-eq2 c =
    rw ((Decides-ltb c.args.id (modulus c.args.width.bits)).1 (omega arith), ne_eqb c.args.version 2 c.if-version-eq2.false) refl
