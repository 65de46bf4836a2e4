use Rattle.std.proofs.Common.{◌≡◌, ℕ, List, length, ap, arith}
use Rattle.std.proofs.lemmas.Bool.{eq-eqb}
use Rattle.sl_wire.specs.declared.message.Msg.TheVariants.{Frame}
use Rattle.sl_wire.proofs.message.Msg.carrying.Goals as goal

pub returns : goal.returns
returns c =
    let size : length c.args.bytes ≡ 24 = omega (arith, ap length c.bytes.view_is, c.bytes.inside.items.ok.0) in
    let same : c.new.result.bytes ≡ c.args.bytes = cc in
    rw (eq-eqb _ _ size) (ap (λ (bs : List ℕ). Frame (record { bytes = bs })) same)
