use Rattle.std.proofs.Common.{◌≡◌, ◌<◌, length, refl, sym, subst, ◌∙◌, arith, zero-add}
use Rattle.std.specs.Prelude.{false}
use Rattle.std.proofs.lemmas.Option.{get_or_from_slice_get, slice_get_within}
use Rattle.std.proofs.lemmas.List.FromFn.{get_or-map-range_with_len, length-map-range_with_len}
use Rattle.sl_layout.specs.declared.actor.ActorId.{ActorId}
use Rattle.sl_layout.specs.declared.actor.ActorId.TheVariants.{Observer, Control, Unit as OfUnit, Host as OfHost}
use Rattle.sl_layout.specs.declared.actor.Side.{Side}
use Rattle.sl_layout.specs.declared.actor.Side.TheVariants.{Ingress, Egress}
use Rattle.sl_layout.specs.declared.actor.UnitId.{UnitId}
use Rattle.sl_layout.specs.Net.{actor_of}
use Rattle.sl_wire.specs.Sizes.{sizes_of}
use Rattle.sl_model.specs.Setup.{setup_of}
use Rattle.sl_model.specs.World.{start}
use Rattle.sl_simulation.specs.UnitImage.{IsUnitOf}
use Rattle.sl_unit.specs.Made.{ingress_state, egress_state}
use Rattle.sl_control.specs.Wires.{first_control}
use Rattle.sl_proto.specs.Nodes.{UnitNode}
use Rattle.sl_proto.specs.Built.{first_unit, first_node, first_at, first_states}
use Rattle.sl_proto.specs.Meaning.{StandsAs, NodeStands}
use Rattle.sl_proto.proofs.NodeSteps.{stands-here}
use Rattle.sl_proto.proofs.nodes.nodes_start.Goals as goal

pub returns-clause-each : goal.returns-clause-each
returns-clause-each c i = length-map-range_with_len (first_at first_control i) 0 (length i.net.actors)

pub returns-clause-stand : goal.returns-clause-stand
returns-clause-stand c i a state ranged here = subst (NodeStands (setup_of i) i.snapshot (start i.net) a) is (stands-here (setup_of i) i.snapshot (start i.net) a (actor_of i.net a) (first_node first_control i a (actor_of i.net a)) refl (by_actor (actor_of i.net a)))
  where
    low : a < length i.net.actors
    low = let n = slice_get_within (first_states i) a state here in let m = length-map-range_with_len (first_at first_control i) 0 (length i.net.actors) in omega (arith, n, m)

    is : first_node first_control i a (actor_of i.net a) ≡ state
    is = sym (get_or-map-range_with_len (first_at first_control i) 0 (length i.net.actors) a _ state low (zero-add a)) ∙ get_or_from_slice_get (first_states i) a state state here

    by_side : (u : UnitId) (x : Side) → u.side ≡ x → StandsAs (setup_of i) i.snapshot (start i.net) a (OfUnit u) (UnitNode (first_unit i a x))
    by_side u Ingress q = subst (λ h. IsUnitOf i.net i.snapshot a u h (ingress_state i.net a i.snapshot)) (sym (c.worlds_take_turns.ensures.starts i.net a)) (c.new_units_stand.ensures.ingress i.net i.snapshot a u ranged q)
    by_side u Egress q = subst (λ h. IsUnitOf i.net i.snapshot a u h (egress_state i.net a i.snapshot)) (sym (c.worlds_take_turns.ensures.starts i.net a)) (c.new_units_stand.ensures.egress i.net i.snapshot a u ranged q)

    by_actor : (y : ActorId) → StandsAs (setup_of i) i.snapshot (start i.net) a y (first_node first_control i a y)
    by_actor Observer = c.observers_start.ensures (setup_of i) (λ l n. false) i.snapshot
    by_actor (Control d) = c.controls_start.ensures.stands i.net a (sizes_of i.snapshot)
    by_actor (OfUnit u) = by_side u u.side refl
    by_actor (OfHost h) = c.hosts_start.ensures i (λ l n. false) a h
