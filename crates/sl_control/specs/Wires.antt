-- Trusted text for nodes, but for control_of, unheard, first_control, control_counts.
-- How the control plane of a device is joined in a net, and what it knows at first.
use Rattle.std.specs.Prelude.{ℕ, false, List, map, length, replicate, nat_lt, slice_index_or}
use Rattle.sl_machine.specs.Machine.{Counts}
use Rattle.sl_layout.specs.declared.actor.Sort.{Sort}
use Rattle.sl_layout.specs.declared.actor.Sort.TheVariants.{Init, Done}
use Rattle.sl_layout.specs.declared.actor.ActorId.TheVariants.{Control}
use Rattle.sl_layout.specs.Net.{Net, place_of, links_into, links_from, links_out, choices_of, data_channels, action_choice, unit_place}
use Rattle.sl_layout.specs.Serving.{ServedUnit, served}
use Rattle.sl_layout.specs.Wires.{out_of}
use Rattle.sl_wire.specs.Sizes.{Sizes, lengths}
use Rattle.sl_control.specs.declared.known.UnitWires.{UnitWires}
use Rattle.sl_control.specs.declared.known.Known.{Known}
use Rattle.sl_control.specs.Control.{ControlWires, ControlState}

-- the number of the actor that is the control plane of a device
abbrev pub control_of : Net → ℕ → ℕ
control_of net device = place_of (Control device) net.actors

-- the places of an actor's links of a sort among its outgoing links
abbrev pub outs_of : Net → ℕ → Sort → List ℕ
outs_of net a s = map (out_of net) (links_out net a s)

-- a unit with a link for initiations is an ingress unit
abbrev pub unit_wires : Net → ServedUnit → UnitWires
unit_wires net v = record {
  place = unit_place net v.unit;
  notice = v.notice;
  dump = v.dump;
  poll = out_of net v.poll;
  ingress = nat_lt 0 (length (choices_of net v.unit Init));
  channels = length (data_channels net v.unit);
}

abbrev pub control_wires : Net → ℕ → Sizes → ControlWires
control_wires net a sizes = record {
  begin = 0;
  sweep = action_choice net a;
  inits = outs_of net a Init;
  done = slice_index_or (outs_of net a Done) 0 0;
  sizes = lengths sizes;
  version = sizes.version;
}

-- a unit from which no dump came
abbrev pub unheard : UnitWires → Known
unheard w = record { wires = w; id = 0; last = replicate 8 0; cpu = 0; upto = 0; waits = false; again = false }

-- an actor's state as a control plane at the start
abbrev pub first_control : Net → ℕ → Sizes → ControlState
first_control net a sizes = record { wires = control_wires net a sizes; units = map (λ v. unheard (unit_wires net v)) (served net a) }

abbrev pub control_counts : Net → ℕ → Counts
control_counts net a = record { ins = length (links_into net a); outs = length (links_from net a); actions = 1 }
