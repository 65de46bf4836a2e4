use Rattle.std.proofs.Common.{◌≡◌, sym, subst, ap}
use Rattle.sl_layout.specs.Net.{Net}
use Rattle.sl_net.specs.Input.{Input}
use Rattle.sl_model.specs.Losses.{losses}
use Rattle.sl_world.specs.World.{scene}
use Rattle.sl_proto.specs.Standing.{case_of, StandsFor}
use Rattle.sl_emul.proofs.run.finish_run.Goals as goal

pub returns-in-Ok : goal.returns-in-Ok
returns-in-Ok c =
    let i = c.args.input.now in
    let x = case_of i (losses i) in
    let t = scene c.end_run.new.taker in
    let net : c.input.inside.net ≡ i.net = ap (λ (i : Input). i.net) c.input.view_is in
    let first : StandsFor c.input.inside.net x (scene c.args.world) = subst (λ (net : Net). StandsFor net x (scene c.args.world)) (sym net) c.requires.stands in
    record {
      finishing = c.in-Ok.ensures.finishes x c.requires.window first;
      stands = subst (λ (net : Net). StandsFor net x t) net (c.end_run.ensures.keeps.stands x first);
      few = c.in-Ok.ensures.few;
      front_is = c.in-Ok.ensures.front;
    }
