use Rattle.std.proofs.Common.{◌<◌, length, refl, ap, ◌∙◌, Some, arith, zero-add}
use Rattle.std.proofs.lemmas.Option.{slice_get-get_or}
use Rattle.std.proofs.lemmas.List.FromFn.{get_or-map-range_with_len, length-map-range_with_len}
use Rattle.sl_observe.specs.Observer.{first_state}
use Rattle.sl_control.specs.Wires.{first_control}
use Rattle.sl_wire.specs.Sizes.{sizes_of}
use Rattle.sl_model.specs.Setup.{setup_of}
use Rattle.sl_proto.specs.Built.{first_node, first_at, first_states}
use Rattle.sl_proto.specs.Meaning.{NodeStands}
use Rattle.sl_proto.specs.Nodes.{NodeState, ObserverNode}
use Rattle.sl_proto.proofs.Choices.{has-actors}
use Rattle.sl_proto.proofs.Schedules.{first-image}
use Rattle.sl_proto.proofs.nodes.nodes_stand_at_first.Goals as goal

pub returns-clause-stands : goal.returns-clause-stands
returns-clause-stands c i lost losses r ranged new = record {
  net_is = refl;
  runnable = r;
  legal = tt;
  image = first-image c.worlds_take_turns.ensures (setup_of i) lost (sizes_of i.snapshot) (NodeStands (setup_of i) i.snapshot) (first_states i) losses (record {
    states_each = c.nodes_start.ensures.each i;
    states_stand = λ a state here. c.nodes_start.ensures.stand i a state ranged here;
    losses_each = new.each;
    losses_go = new.go;
  });
}

pub returns-clause-observer : goal.returns-clause-observer
returns-clause-observer c i losses n =
    let wired = c.nets_are_wired.ensures i.net n in
    let low : 0 < length i.net.actors = has-actors i.net n.made in
    let z : NodeState = ObserverNode (first_state i.net i.snapshot) in
    let m = length-map-range_with_len (first_at first_control i) 0 (length i.net.actors) in
    record {
      observer = first_state i.net i.snapshot;
      first = slice_get-get_or (first_states i) 0 z (omega (arith, m, low)) ∙ ap Some (get_or-map-range_with_len (first_at first_control i) 0 (length i.net.actors) 0 _ z low (zero-add 0) ∙ ap (first_node first_control i 0) wired.observer);
    }
