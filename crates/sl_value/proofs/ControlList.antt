-- The control planes among the nodes of a net are those of its devices, in order.
use Rattle.std.proofs.Common.{◌≡◌, ℕ, zero, suc, ◌<◌, List, [], ◌∷◌, ◌++◌, length, map, refl, sym, ap, ◌∙◌, Option, Some, None, arith, append-nil, zero-add}
use Rattle.std.specs.Prelude.{slice_get, slice_index_or, flat_map}
use Rattle.std.proofs.lemmas.Option.{slice_get_within, slice_get_read}
use Rattle.std.proofs.lemmas.List.FromFn.{get_or-range_with_len, length-range_with_len}
use Rattle.sl_parts.specs.Parts.{Parts, below, used_ports}
use Rattle.sl_layout.specs.declared.actor.ActorId.{ActorId}
use Rattle.sl_layout.specs.declared.actor.ActorId.TheVariants.{Observer, Control, Unit as OfUnit, Host as OfHost}
use Rattle.sl_layout.specs.Net.{Net, ingress, egress, units_of, actors_of, nobody, actor_of}
use Rattle.sl_net.specs.declared.input.Snapshot.{Snapshot}
use Rattle.sl_machine.specs.declared.wiring.Entry.{Entry}
use Rattle.sl_net.specs.Input.{Input}
use Rattle.sl_net.specs.Wired.{IsNet, IsWired}
use Rattle.sl_control.specs.Wires.{control_of}
use Rattle.sl_model.specs.Words.{listed, numbers}
use Rattle.sl_model.specs.Books.{schedule_of}
use Rattle.sl_model.specs.History.{World}
use Rattle.sl_model.specs.Losses.{losses}
use Rattle.sl_model.specs.World.{world}
use Rattle.sl_model.specs.Setup.{Setup, setup_of}
use Rattle.sl_proto.specs.Meaning.{StandsAs, NodeStands}
use Rattle.sl_proto.specs.Nodes.{NodeState, ObserverNode, ControlNode, UnitNode, HostNode}
use Rattle.sl_value.specs.Valued.{ValueState}
use Rattle.sl_value.specs.Nodes.{ValueNodeState, plain, control_in, controls_in}
use Rattle.sl_value.specs.Standing.{ValueStands}
use Rattle.sl_value.specs.Controls.{AreControls}
use Rattle.sl_value.proofs.Listed.{numbers-map, numbers-append}

-- The devices of the control planes among actors.

abbrev device_kept : ActorId → Option ℕ
device_kept (Control d) = Some d
device_kept _ = None

of-hosts : (hs : List ℕ) → numbers device_kept (map OfHost hs) ≡ []
of-hosts [] = refl
of-hosts (h ∷ hs) = of-hosts hs

of-units : (d : ℕ) (ps : List ℕ) → numbers device_kept (flat_map (λ p. ingress d p ∷ egress d p ∷ []) ps) ≡ []
of-units d [] = refl
of-units d (p ∷ ps) = of-units d ps

of-devices : (parts : Parts) (ds : List ℕ) → numbers device_kept (flat_map (λ d. Control d ∷ units_of parts d) ds) ≡ ds
of-devices parts [] = refl
of-devices parts (d ∷ ds) =
    let rest : List ActorId = flat_map (λ d. Control d ∷ units_of parts d) ds in
    ap (λ ns. d ∷ ns) (numbers-append device_kept (units_of parts d) rest
    ∙ ap (λ ns. ns ++ numbers device_kept rest) (of-units d (used_ports parts d)) ∙ of-devices parts ds)

devices-are : (parts : Parts) → numbers device_kept (actors_of parts) ≡ below (length parts.devices)
devices-are parts =
    let inner : List ActorId = flat_map (λ d. Control d ∷ units_of parts d) (below (length parts.devices)) in
    numbers-append device_kept inner (map OfHost (below (length parts.hosts)))
    ∙ ap (λ ns. numbers device_kept inner ++ ns) (of-hosts (below (length parts.hosts)))
    ∙ append-nil (numbers device_kept inner) ∙ of-devices parts (below (length parts.devices))

-- The control planes among nodes, where the others have no device here.

abbrev IsKeeper : Option ℕ → Option ValueState → Type 0
IsKeeper (Some d) (Some s) = Unit {0}
IsKeeper None None = Unit {0}
IsKeeper _ _ = ⊥

abbrev AreKeepers : List (Option ℕ) → List ValueNodeState → Type 0
AreKeepers [] [] = Unit {0}
AreKeepers (o ∷ os) (s ∷ ss) = IsKeeper o (control_in s) × AreKeepers os ss
AreKeepers _ _ = ⊥

are-keepers : (xs : List ActorId) (ss : List ValueNodeState) → length ss ≡ length xs
    → ((a : ℕ) (s : ValueNodeState) → slice_get ss a ≡ Some s → IsKeeper (device_kept (slice_index_or xs a nobody)) (control_in s)) → AreKeepers (map device_kept xs) ss
are-keepers [] [] e h = tt
are-keepers (x ∷ xs) (s ∷ ss) e h = (h 0 s refl, are-keepers xs ss (omega (arith, e)) (λ a t q. h (suc a) t q))
are-keepers [] (s ∷ ss) e h = absurd (omega (arith, e))
are-keepers (x ∷ xs) [] e h = absurd (omega (arith, e))

as-many : (os : List (Option ℕ)) (ss : List ValueNodeState) → AreKeepers os ss → length (controls_in ss) ≡ length (numbers (λ o. o) os)
as-many [] [] h = refl
as-many (o ∷ os) (s ∷ ss) h = by_control (as-many os ss h.1) o (control_in s) h.0
  where
    by_control : length (controls_in ss) ≡ length (numbers (λ o. o) os) → (o : Option ℕ) (c : Option ValueState) → IsKeeper o c → length (listed c ++ controls_in ss) ≡ length (listed o ++ numbers (λ o. o) os)
    by_control rest (Some d) (Some c) k = ap suc rest
    by_control rest None None k = rest
    by_control rest (Some d) None k = absurd k
    by_control rest None (Some c) k = absurd k
as-many [] (s ∷ ss) h = absurd h
as-many (o ∷ os) [] h = absurd h

control-of : (s : ValueNodeState) (c : ValueState) → control_in s ≡ Some c → s ≡ ControlNode c
control-of (ControlNode s) c e = let q : s ≡ c = cc in ap ControlNode q
control-of (ObserverNode s) c e = absurd (cc)
control-of (UnitNode s) c e = absurd (cc)
control-of (HostNode s) c e = absurd (cc)

record IsAt (os : List (Option ℕ)) (ss : List ValueNodeState) (place : ℕ) (c : ValueState) : Type 0 where
  actor : ℕ
  device : ℕ
  node : slice_get ss actor ≡ Some (ControlNode c)
  keeps : slice_get os actor ≡ Some (Some device)
  listed_at : slice_get (numbers (λ o. o) os) place ≡ Some device

at-place : (os : List (Option ℕ)) (ss : List ValueNodeState) (place : ℕ) (c : ValueState)
    → AreKeepers os ss → slice_get (controls_in ss) place ≡ Some c → IsAt os ss place c
at-place (o ∷ os) (s ∷ ss) place c h e = by_control (λ p q. at-place os ss p c h.1 q) o (control_in s) refl h.0 place e
  where
    by_control : ((p : ℕ) → slice_get (controls_in ss) p ≡ Some c → IsAt os ss p c) → (o : Option ℕ) (d : Option ValueState) → control_in s ≡ d → IsKeeper o d → (place : ℕ) → slice_get (listed d ++ controls_in ss) place ≡ Some c → IsAt (o ∷ os) (s ∷ ss) place c
    by_control rest (Some d) (Some b) q k zero e = let is : b ≡ c = cc in
        record { actor = 0; device = d; node = ap Some (control-of s c (q ∙ ap Some is)); keeps = refl; listed_at = refl }
    by_control rest (Some d) (Some b) q k (suc place) e = let r = rest place e in
        record { actor = suc r.actor; device = r.device; node = r.node; keeps = r.keeps; listed_at = r.listed_at }
    by_control rest None None q k place e = let r = rest place e in
        record { actor = suc r.actor; device = r.device; node = r.node; keeps = r.keeps; listed_at = r.listed_at }
    by_control rest (Some d) None q k place e = absurd k
    by_control rest None (Some b) q k place e = absurd k
at-place [] [] place c h e = absurd (cc)
at-place [] (s ∷ ss) place c h e = absurd h
at-place (o ∷ os) [] place c h e = absurd h

is-control : (xs : List ActorId) (a d : ℕ) → slice_get (map device_kept xs) a ≡ Some (Some d) → slice_index_or xs a nobody ≡ Control d
is-control [] a d e = absurd (cc)
is-control (x ∷ xs) (suc a) d e = is-control xs a d e
is-control (x ∷ xs) zero d e = by_actor x e
  where
    by_actor : (x : ActorId) → Some (device_kept x) ≡ Some (Some d) → x ≡ Control d
    by_actor (Control b) e = let q : b ≡ d = cc in ap Control q
    by_actor Observer e = absurd (cc)
    by_actor (OfUnit i) e = absurd (cc)
    by_actor (OfHost h) e = absurd (cc)

-- In a net.

module _ (net : Net) (made : IsNet net) (z : IsWired net) (ss : List ValueNodeState) (each : length ss ≡ length net.actors)
    (keepers : (a : ℕ) (s : ValueNodeState) → slice_get ss a ≡ Some s → IsKeeper (device_kept (actor_of net a)) (control_in s)) where
  all : AreKeepers (map device_kept net.actors) ss
  all = are-keepers net.actors ss each keepers

  devices : numbers (λ o. o) (map device_kept net.actors) ≡ below (length net.parts.devices)
  devices = numbers-map (λ o. o) device_kept net.actors ∙ ap (λ (n : Net). numbers device_kept n.actors) made.made ∙ devices-are net.parts

  control-each : length (controls_in ss) ≡ length net.parts.devices
  control-each = as-many (map device_kept net.actors) ss all ∙ ap length devices ∙ length-range_with_len 0 (length net.parts.devices)

  -- the control at a place is that of the device with this number
  control-node : (d : ℕ) (c : ValueState) → slice_get (controls_in ss) d ≡ Some c → slice_get ss (control_of net d) ≡ Some (ControlNode c)
  control-node d c e =
      let r = at-place (map device_kept net.actors) ss d c all e in
      let low = slice_get_within (controls_in ss) d c e in
      let n : ℕ = length net.parts.devices in
      let within : d < length net.parts.devices = omega (arith, low, control-each) in
      let found : Some d ≡ Some r.device = sym (slice_get_read (below n) n d d (sym (length-range_with_len 0 n)) within (sym (get_or-range_with_len 0 n d d within ∙ zero-add d)))
      ∙ sym (ap (λ ns. slice_get ns d) devices) ∙ r.listed_at in
      let is : r.device ≡ d = cc in
      let actor : actor_of net r.actor ≡ Control d = is-control net.actors r.actor r.device r.keeps ∙ ap Control is in
      ap (slice_get ss) (z.numbered r.actor (Control d) actor (λ x. cc)) ∙ r.node

-- A node that stands for the history of its actor is a control plane just where this is one.
no-device : (s : Setup) (table : Snapshot) (w : World) (a : ℕ) (n : NodeState) → ((d : ℕ) → StandsAs s table w a (Control d) n → ⊥) → (x : ActorId) → StandsAs s table w a x n → IsKeeper (device_kept x) None
no-device s table w a n other Observer h = tt
no-device s table w a n other (Control d) h = other d h
no-device s table w a n other (OfUnit i) h = tt
no-device s table w a n other (OfHost i) h = tt

keeper : (s : Setup) (table : Snapshot) (w : World) (a : ℕ) (state : ValueNodeState) → NodeStands s table w a (plain state) → IsKeeper (device_kept (actor_of s.net a)) (control_in state)
keeper s table w a (ObserverNode o) st = no-device s table w a (ObserverNode o) (λ d h. h) (actor_of s.net a) st
keeper s table w a (UnitNode o) st = no-device s table w a (UnitNode o) (λ d h. h) (actor_of s.net a) st
keeper s table w a (HostNode o) st = no-device s table w a (HostNode o) (λ d h. h) (actor_of s.net a) st
keeper s table w a (ControlNode c) st = by_actor (actor_of s.net a) st
  where
    by_actor : (x : ActorId) → StandsAs s table w a x (ControlNode c.control) → IsKeeper (device_kept x) (Some c)
    by_actor Observer h = h
    by_actor (Control d) h = tt
    by_actor (OfUnit i) h = h
    by_actor (OfHost i) h = h

module _ (i : Input) (w : World) (ss : List ValueNodeState) (made : IsNet i.net) (z : IsWired i.net) (each : length ss ≡ length i.net.actors)
    (stands : (a : ℕ) (state : ValueNodeState) → slice_get ss a ≡ Some state → ValueStands (setup_of i) i.snapshot w a state) where
  keepers : (a : ℕ) (s : ValueNodeState) → slice_get ss a ≡ Some s → IsKeeper (device_kept (actor_of i.net a)) (control_in s)
  keepers a s e = keeper (setup_of i) i.snapshot w a s (stands a s e).node

  pub control-at : (d : ℕ) (c : ValueState) → slice_get (controls_in ss) d ≡ Some c → slice_get ss (control_of i.net d) ≡ Some (ControlNode c)
  control-at d c e = control-node i.net made z ss each keepers d c e

pub are-controls : (i : Input) (book : List Entry) (ss : List ValueNodeState) → IsNet i.net → IsWired i.net → length ss ≡ length i.net.actors
    → ((a : ℕ) (state : ValueNodeState) → slice_get ss a ≡ Some state → ValueStands (setup_of i) i.snapshot (world (setup_of i) (losses i) (schedule_of book)) a state)
    → AreControls i book (controls_in ss)
are-controls i book ss made z each stands = record {
  each = control-each i.net made z ss each (keepers i w ss made z each stands);
  stand = λ d c e. stands (control_of i.net d) (ControlNode c) (control-at i w ss made z each stands d c e);
}
  where
    w : World
    w = world (setup_of i) (losses i) (schedule_of book)
