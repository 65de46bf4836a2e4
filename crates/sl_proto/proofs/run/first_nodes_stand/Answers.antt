use Rattle.std.proofs.Common.{sym, subst, ap, ◌∙◌}
use Rattle.sl_machine.specs.Plan.{IsSound}
use Rattle.sl_net.specs.Input.{Input}
use Rattle.sl_layout.specs.Wiring.{plan_of}
use Rattle.sl_model.specs.Losses.{losses}
use Rattle.sl_proto.specs.Standing.{case_of, StandsFor}
use Rattle.sl_proto.proofs.Books.{runnable}
use Rattle.sl_proto.proofs.run.first_nodes_stand.Goals as goal

pub returns : goal.returns
returns c v first =
    let i = c.args.input.now in
    let sound : IsSound (plan_of i.net) = subst IsSound (c.wiring-wiring.ensures.now ∙ ap (λ (i : Input). plan_of i.net) c.input.view_is) c.wiring-wiring.ensures.sound in
    let can = runnable i (losses i) c.requires sound (c.inputs_spare_reliable_links.ensures i) in
    subst (StandsFor i.net (case_of i (losses i))) (sym first.is) (c.nodes_stand_at_first.ensures.stands i (losses i) first.losses_are can c.requires.snapshot first.new)
