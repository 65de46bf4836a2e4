use Rattle.std.proofs.Common.{◌≡◌, ap, arith}
use Rattle.std.proofs.lemmas.Grind.{common_steps}
use Rattle.std.specs.Prelude.{map}
use Rattle.sl_net.specs.Input.{Input}
use Rattle.sl_model.specs.Cut.{channel_value}
use Rattle.sl_model.specs.Findings.{channel_links, eight_totals}
use Rattle.sl_model.specs.Losses.{losses}
use Rattle.sl_cut.proofs.values.row.Goals as goal

pub returns : goal.returns
returns c =
    let i = c.args.input.now in
    let n : c.input.inside.net ≡ i.net = ap (λ (j : Input). j.net) c.input.view_is in
    let totals : c.eight_totals.result ≡ eight_totals (map (channel_value i.net (losses i) c.args.world.now c.args.snapshot) (channel_links i.net c.args.unit))
    = rw (c.deref-2.ensures.value, c.in_ok-totals.ensures, c.links_into-into.ensures.links, c.deref.ensures.value, c.in_ok-channels.ensures.channels, n) at c.eight_totals.ensures in
    grind (arith, common_steps, totals)
