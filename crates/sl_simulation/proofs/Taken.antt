-- What a unit's machine makes of bytes from its host, and what a step puts that takes a frame which is no plain frame.
use Rattle.std.proofs.Common.{◌≡◌, ◌≢◌, ℕ, ◌-◌, List, [], ◌++◌, refl, sym, ap, ◌∙◌, Option, Some, None}
use Rattle.std.specs.Prelude.{if◌then◌else◌, option_map, option_and_then, slice_get}
use Rattle.std.proofs.lemmas.Bool.{eq-eqb, ne_eqb}
use Rattle.sl_layout.specs.declared.actor.Side.{Side}
use Rattle.sl_layout.specs.declared.actor.Side.TheVariants.{Ingress, Egress}
use Rattle.sl_layout.specs.declared.actor.UnitId.{UnitId}
use Rattle.sl_layout.specs.declared.actor.ActorId.{ActorId}
use Rattle.sl_layout.specs.declared.actor.ActorId.TheVariants.{Observer, Control, Unit as OfUnit, Host as OfHost}
use Rattle.sl_layout.specs.Net.{Net, links_into, action_choice}
use Rattle.sl_net.specs.declared.input.Packet.{Packet}
use Rattle.sl_wire.specs.declared.message.Msg.{Msg}
use Rattle.sl_wire.specs.Carried.{carrying}
use Rattle.sl_machine.specs.Machine.{After}
use Rattle.sl_unit.specs.declared.wires.Entrance.TheVariants.{Host}
use Rattle.sl_unit.specs.Wires.{entrance_at, port_to}
use Rattle.sl_unit.specs.Registers.{Registers, counted, more}
use Rattle.sl_unit.specs.Step.{UnitState, onward, routed, from_host, of_host, take_at, unit_take}
use Rattle.sl_simulation.proofs.UnitFrames.{plain-is, bytes-carried}
use Rattle.sl_model.specs.declared.message.Message.{Message}
use Rattle.sl_model.specs.declared.message.Message.TheVariants.{Host as HostMsg}
use Rattle.sl_model.specs.declared.message.Put.{Put}
use Rattle.sl_model.specs.declared.message.Step.{Step}
use Rattle.sl_model.specs.Frame.{packet_of}
use Rattle.sl_model.specs.History.{History, World, Losses, history}
use Rattle.sl_model.specs.Setup.{Setup}
use Rattle.sl_model.specs.Puts.{route_frame, side_puts, puts_of, action}
use Rattle.sl_model.specs.World.{Entry, front, taking, acting, floor_for, step_by, next_step}

-- The machine.

pub host-taken : (s : UnitState) (c : ℕ) (bytes : List ℕ) (o : Option Packet) → entrance_at s.wires c ≡ Host → packet_of bytes ≡ o → unit_take s c (carrying bytes) ≡ from_host s o
host-taken s c bytes o e q = ap (λ t. take_at t s (carrying bytes)) e ∙ ap (of_host s) (bytes-carried bytes) ∙ ap (from_host s) (plain-is s.wires.bits bytes ∙ q)

abbrev pub Routed : UnitState → Packet → After Registers Msg → Type 0
Routed s p a = routed s.wires p (counted p.len s.registers) ≡ a

pub routed-taken : (s : UnitState) (c : ℕ) (bytes : List ℕ) (p : Packet) (a : After Registers Msg) → entrance_at s.wires c ≡ Host → packet_of bytes ≡ Some p → Routed s p a
    → unit_take s c (carrying bytes) ≡ record { state = record s { registers = a.state }; puts = a.puts }
routed-taken s c bytes p a e q r = host-taken s c bytes (Some p) e q ∙ ap (λ a. record { state = record s { registers = a.state }; puts = a.puts }) r

abbrev pub expired_after : UnitState → Packet → After Registers Msg
expired_after s p = let r = counted p.len s.registers in record { state = record r { expired = more r.expired 1 }; puts = [] }

pub routed-expired : (s : UnitState) (p : Packet) → p.hops ≡ 0 → Routed s p (expired_after s p)
routed-expired s p z = ap (λ b. if b then expired_after s p else onward s.wires p (counted p.len s.registers) (port_to s.wires p.dst)) (eq-eqb p.hops 0 z)

pub routed-onward : (s : UnitState) (p : Packet) (o : Option ℕ) → p.hops ≢ 0 → port_to s.wires p.dst ≡ o → Routed s p (onward s.wires p (counted p.len s.registers) o)
routed-onward s p o n q = ap (λ b. if b then expired_after s p else onward s.wires p (counted p.len s.registers) (port_to s.wires p.dst)) (ne_eqb p.hops 0 n)
    ∙ ap (onward s.wires p (counted p.len s.registers)) q

-- The model.

side-none : (net : Net) (u : ℕ) (i : UnitId) (side : Side) (k l : ℕ) (bytes : List ℕ) → packet_of bytes ≡ None → side_puts net u i side k l (HostMsg bytes) ≡ []
side-none net u i Ingress k l bytes q = ap (route_frame net u i.device k) q
side-none net u i Egress k l bytes q = refl

puts-none : (s : Setup) (a : ℕ) (actor : ActorId) (h : History) (c l : ℕ) (bytes : List ℕ) → packet_of bytes ≡ None → puts_of s a actor h c l (HostMsg bytes) ≡ []
puts-none s a Observer h c l bytes q = refl
puts-none s a (Control d) h c l bytes q = refl
puts-none s a (OfUnit i) h c l bytes q = ap (λ ps. ps ++ ([] ++ [])) (side-none s.net a i i.side _ l bytes q)
puts-none s a (OfHost i) h c l bytes q = refl

step-none : (s : Setup) (lost : Losses) (w : World) (a c : ℕ) (o : Option ℕ) (actor : ActorId) (step : Step) (bytes : List ℕ) → step_by s lost w a c o actor ≡ Some step
    → step.taken ≡ Some (HostMsg bytes) → packet_of bytes ≡ None → step.puts ≡ []
step-none s lost w a c (Some l) actor step bytes e t q = by_front (front s.net lost w a c l) e
  where
    by_front : (o : Option Message) → option_map (λ m. taking c m (puts_of s a actor (history w a) c l m)) o ≡ Some step → step.puts ≡ []
    by_front None e = absurd (cc)
    by_front (Some m) e = let p : taking c m (puts_of s a actor (history w a) c l m) ≡ step = cc in let b : m ≡ HostMsg bytes = cc in
        sym (ap (λ (x : Step). x.puts) p) ∙ ap (puts_of s a actor (history w a) c l) b ∙ puts-none s a actor (history w a) c l bytes q
step-none s lost w a c None actor step bytes e t q = by_action (action s (floor_for s.net w actor) a actor (history w a) (c - action_choice s.net a)) e
  where
    by_action : (o : Option (List Put)) → option_map (acting c) o ≡ Some step → step.puts ≡ []
    by_action None e = absurd (cc)
    by_action (Some ps) e = let p : acting c ps ≡ step = cc in let n : Some (HostMsg bytes) ≡ None = sym t ∙ sym (ap (λ (x : Step). x.taken) p) in absurd (cc)

pub forged-puts : (s : Setup) (lost : Losses) (w : World) (e : Entry) (step : Step) (bytes : List ℕ) → next_step s lost w e ≡ Some step → step.taken ≡ Some (HostMsg bytes)
    → packet_of bytes ≡ None → step.puts ≡ []
forged-puts s lost w e step bytes n t q = by_actor (slice_get s.net.actors e.0) n
  where
    by_actor : (o : Option ActorId) → option_and_then (step_by s lost w e.0 e.1 (slice_get (links_into s.net e.0) e.1)) o ≡ Some step → step.puts ≡ []
    by_actor None n = absurd (cc)
    by_actor (Some actor) n = step-none s lost w e.0 e.1 (slice_get (links_into s.net e.0) e.1) actor step bytes n t q
