use Rattle.std.proofs.Common.{below_more, ◌≡◌, arith, ap, length, refl}
use Rattle.std.proofs.lemmas.Bool.Decides.{nat_tests}
use Rattle.sl_layout.specs.Net.{Net}
use Rattle.sl_net.specs.Input.{Input}
use Rattle.sl_cut.proofs.ending.all_taken.Goals as goal

pub loop-link-preserved : goal.loop-link-preserved
loop-link-preserved c = below_more _ _ c.loop-link.invariant (grind (arith, nat_tests))

pub returns : goal.returns
returns c =
    let n : c.input.inside.net ≡ c.args.input.now.net = ap (λ (i : Input). i.net) c.input.view_is in
    let few = ap (λ (m : Net). length m.links) n in
    let all = ap length c.links.ensures.now in
    (λ e l h. c.loop-link.invariant l (omega (arith, few, all)), λ f. refl)
