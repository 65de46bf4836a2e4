use Rattle.std.proofs.Common.{◌≡◌, ℕ, length, ap, sym, subst, ◌∙◌, rules}
use Rattle.sl_layout.specs.declared.actor.ActorId.TheVariants.{Control as OfControl, Unit as OfUnit, Host as OfHost}
use Rattle.sl_layout.specs.Net.{Net, net_of, actor_of, unit_place, links_into, links_from}
use Rattle.sl_layout.specs.Wiring.{actions_of}
use Rattle.sl_net.specs.Input.{Input}
use Rattle.sl_net.specs.Wired.{IsWired}
use Rattle.sl_unit.specs.Made.{side_of}
use Rattle.sl_unit.specs.Units.{unit_state}
use Rattle.sl_control.specs.Wires.{control_of, control_counts}
use Rattle.sl_wire.specs.Sizes.{sizes_of}
use Rattle.sl_proto.specs.Nodes.{ControlNode, UnitNode, HostNode}
use Rattle.sl_proto.specs.Built.{first_unit, first_node, counts_at}
use Rattle.sl_proto.proofs.Counts.{place_is, unit_found, unit_counts_are, host_fits}
use Rattle.sl_proto.proofs.build.make_node.Goals as goal

control_fits : (net : Net) (a d : ℕ) → actor_of net a ≡ OfControl d → control_counts net a ≡ counts_at net a
control_fits net a d q = λ i. record { ins = length (links_into net a); outs = length (links_from net a); actions = sym (ap actions_of q) i }

pub unit_at-requires-clause-place : goal.unit_at-requires-clause-place
unit_at-requires-clause-place g c =
    let a = c.args.actor in
    let q = sym (c.in-Unit.ensures.actor ∙ ap (λ (i : Input). actor_of i.net a) c.input.view_is) in
    (unit_found c.args.input.now.net a _ c.in-Unit.unit c.nets_have_ways.ensures q (c.unit_place-place.ensures ∙ ap (λ (i : Input). unit_place i.net a) c.input.view_is)).within

pub unit_at-requires-clause-side : goal.unit_at-requires-clause-side
unit_at-requires-clause-side g c =
    let a = c.args.actor in
    let net = c.args.input.now.net in
    let q = sym (c.in-Unit.ensures.actor ∙ ap (λ (i : Input). actor_of i.net a) c.input.view_is) in
    let here = unit_found net a _ c.in-Unit.unit c.nets_have_ways.ensures q (c.unit_place-place.ensures ∙ ap (λ (i : Input). unit_place i.net a) c.input.view_is) in
    ap (λ b. side_of (actor_of net b)) here.is ∙ ap side_of q

pub returns-in_ok-unit-in-Unit : goal.returns-in_ok-unit-in-Unit
returns-in_ok-unit-in-Unit g c =
    let input = c.args.input.now in
    let a = c.args.actor in
    let side = c.in-Unit.unit.side in
    let q : actor_of input.net a ≡ OfUnit c.in-Unit.unit = sym (c.in-Unit.ensures.actor ∙ ap (λ (i : Input). actor_of i.net a) c.input.view_is) in
    let here = unit_found input.net a _ c.in-Unit.unit c.nets_have_ways.ensures q (c.unit_place-place.ensures ∙ ap (λ (i : Input). unit_place i.net a) c.input.view_is) in
    let is : unit_state c.in_ok-unit-in-Unit.unit ≡ first_unit input a side = c.in_ok-unit-in-Unit.ensures.state ∙ ap (λ b. first_unit input b side) here.is in
    record {
      state = ap UnitNode is ∙ sym (ap (first_node g.C.ControlPlane.first input a) q);
      counts = unit_counts_are input a c.in-Unit.unit side (unit_state c.in_ok-unit-in-Unit.unit) q is;
      ready = search rules;
    }

pub returns-in_ok-control-in-Control : goal.returns-in_ok-control-in-Control
returns-in_ok-control-in-Control g c =
    let input = c.args.input.now in
    let a = c.args.actor in
    let q : actor_of input.net a ≡ OfControl c.in-Control.device = sym (c.in-Control.ensures.actor ∙ ap (λ (i : Input). actor_of i.net a) c.input.view_is) in
    let here : control_of input.net c.in-Control.device ≡ a = place_is input.net a _ (subst (λ (i : Input). i.net ≡ net_of i.net.parts) c.input.view_is c.parts-parts.ensures.net) c.requires.below q in
    let node = c.in_ok-control-in-Control.control in
    let state = subst (λ (i : Input). g.C.ControlPlane.state node ≡ g.C.ControlPlane.first i.net (control_of i.net c.in-Control.device) (sizes_of i.snapshot)) c.input.view_is
    c.in_ok-control-in-Control.ensures.state in
    let counts = subst (λ (i : Input). g.C.ControlPlane.counts node ≡ control_counts i.net (control_of i.net c.in-Control.device)) c.input.view_is
    c.in_ok-control-in-Control.ensures.counts in
    record {
      state = ap ControlNode (state ∙ ap (λ b. g.C.ControlPlane.first input.net b (sizes_of input.snapshot)) here) ∙ sym (ap (first_node g.C.ControlPlane.first input a) q);
      counts = counts ∙ ap (control_counts input.net) here ∙ control_fits input.net a _ q;
      ready = c.in_ok-control-in-Control.ensures.ready;
    }

pub returns-in_ok-host-in-Host : goal.returns-in_ok-host-in-Host
returns-in_ok-host-in-Host g c =
    let input = c.args.input.now in
    let a = c.args.actor in
    let q : actor_of input.net a ≡ OfHost c.in-Host.host = sym (c.in-Host.ensures.actor ∙ ap (λ (i : Input). actor_of i.net a) c.input.view_is) in
    record {
      state = ap HostNode c.in_ok-host-in-Host.ensures.state ∙ sym (ap (first_node g.C.ControlPlane.first input a) q);
      counts = host_fits input.net a c.in-Host.host
          (subst (λ (i : Input). IsWired i.net) c.input.view_is (c.nets_are_wired.ensures _ (record { made = c.parts-parts.ensures.net; right = c.parts-parts.ensures.right })))
          c.requires.below q;
      ready = search rules;
    }
