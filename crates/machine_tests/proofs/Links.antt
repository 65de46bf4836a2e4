-- How many links the units and the first control plane of a net have.
use Rattle.std.proofs.Common.{◌≡◌, ℕ, zero, suc, ◌<◌, List, [], ◌∷◌, ◌++◌, length, map, refl, ap, ◌∙◌, arith}
use Rattle.std.specs.Prelude.{Option, Result, Ok, Err, IfOk, flat_map}
use Rattle.std.proofs.lemmas.List.{length-map}
use Rattle.std.proofs.lemmas.List.FromFn.{length-map-range_with_len}
use Rattle.sl_machine.specs.Machine.{Counts}
use Rattle.sl_parts.specs.Parts.{Parts, below}
use Rattle.sl_layout.specs.declared.actor.ActorId.TheVariants.{Observer, Control, Host}
use Rattle.sl_net.specs.declared.input.Snapshot.{Snapshot}
use Rattle.sl_layout.specs.Net.{Net, net_of, actor_of, units_of, place_of, links_into, links_from}
use Rattle.sl_unit.specs.declared.unit.Unit.{Unit as Declared}
use Rattle.sl_layout.specs.Devices.{device_of}
use Rattle.sl_unit.specs.Made.{entrance_by, exit_by, exits_of, ports_of, wires_of, ingress_state, egress_state}
use Rattle.sl_unit.specs.Step.{UnitState, counts_of}
use Rattle.sl_unit.specs.Units.{unit_state, unit_counts}
use Rattle.sl_control.specs.Wires.{control_of, control_counts}

abbrev pub counts_at : Net → ℕ → ℕ → Counts
counts_at net a actions = record { ins = length (links_into net a); outs = length (links_from net a); actions = actions }

unit_links : (net : Net) (a : ℕ) (ports : List (Option ℕ)) (s : Snapshot) → counts_of (wires_of net a ports s) ≡ counts_at net a 0
unit_links net a ports s =
    ap (λ (n : ℕ). record { ins = n; outs = length (exits_of net a); actions = 0 }) (length-map-range_with_len (entrance_by net a) 0 (length (links_into net a)))
    ∙ ap (λ (n : ℕ). record { ins = length (links_into net a); outs = n; actions = 0 }) (length-map (links_from net a) (exit_by net))

pub ingress_links : {E : Type 0} (made : Result Declared E) (net : Net) (a : ℕ) (n : Snapshot)
    → IfOk made (λ unit. unit_state unit ≡ ingress_state net a n) → IfOk made (λ unit. unit_counts unit ≡ counts_at net a 0)
ingress_links (Ok unit) net a n h = ap (λ (s : UnitState). counts_of s.wires) h ∙ unit_links net a (ports_of net (device_of (actor_of net a))) n
ingress_links (Err e) net a n h = h

pub egress_links : {E : Type 0} (made : Result Declared E) (net : Net) (a : ℕ) (n : Snapshot)
    → IfOk made (λ unit. unit_state unit ≡ egress_state net a n) → IfOk made (λ unit. unit_counts unit ≡ counts_at net a 0)
egress_links (Ok unit) net a n h = ap (λ (s : UnitState). counts_of s.wires) h ∙ unit_links net a [] n
egress_links (Err e) net a n h = h

-- the observer is the first actor, and the control plane of the first device the next
control_first : (parts : Parts) (n : ℕ) → 0 < n
    → place_of (Control 0) (Observer ∷ (flat_map (λ d. Control d ∷ units_of parts d) (below n) ++ map Host (below (length parts.hosts)))) ≡ 1
control_first parts zero h = absurd (omega (arith, h))
control_first parts (suc n) h = refl

pub control_links : (net : Net) → net ≡ net_of net.parts → 0 < length net.parts.devices → control_counts net (control_of net 0) ≡ counts_at net 1 1
control_links net e h =
    let first : control_of net 0 ≡ 1 = ap (λ (n : Net). place_of (Control 0) n.actors) e ∙ control_first net.parts (length net.parts.devices) h in
    ap (control_counts net) first
