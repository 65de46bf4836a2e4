-- What the laws ask of a net's wiring.
--     sends, receives      whether an actor has outgoing, incoming links of a sort
--     HasEnds net l        the ends of a link, and what it is of them
--     Reports net u        how the unit u reports to its control plane, and this to the observer
--     IsNet net            the net is made of parts without a fault
--     IsWired net          the net is wired so; each net of parts without a fault is
use Rattle.std.specs.Prelude.{◌≡◌, ◌⊎◌, ℕ, ◌<◌, ◌≤◌, Bool, true, false, [], ◌∷◌, length, Some, None, slice_get}
use Rattle.sl_layout.specs.declared.actor.Side.TheVariants.{Ingress, Egress}
use Rattle.sl_layout.specs.declared.actor.UnitId.{UnitId}
use Rattle.sl_layout.specs.declared.actor.Side.{Side}
use Rattle.sl_layout.specs.declared.actor.ActorId.{ActorId}
use Rattle.sl_layout.specs.declared.actor.ActorId.TheVariants.{Observer, Control, Unit as OfUnit, Host as OfHost}
use Rattle.sl_layout.specs.declared.actor.Sort.{Sort}
use Rattle.sl_layout.specs.declared.actor.Sort.TheVariants.{FromHost, ToHost, Cable, Crossbar, Init, Poll, Notice, Dump, Begin, Done}
use Rattle.sl_parts.specs.Fault.{fault_of}
use Rattle.sl_parts.specs.Parts.{used_ports}
use Rattle.sl_parts.specs.Valid.{IsValid}
use Rattle.sl_parts.specs.Lists.{Each, Member}
use Rattle.sl_layout.specs.Roster.{IsActor}
use Rattle.sl_layout.specs.Wires.{out_of}
use Rattle.sl_layout.specs.Serving.{choice_from, served}
use Rattle.sl_net.specs.Ways.{IsOut, HasWays}
use Rattle.sl_layout.specs.Net.{Net, net_of, incoming, actor_of, nobody, place_of, link_of, links_into, links_from, links_out, choices_of, choice_of, data_channels, unit_place}

abbrev pub unit_sends : Side → Sort → Bool
unit_sends Ingress Crossbar = true
unit_sends Egress Cable = true
unit_sends Egress ToHost = true
unit_sends _ Notice = true
unit_sends _ Dump = true
unit_sends _ _ = false

abbrev pub sends : ActorId → Sort → Bool
sends Observer Begin = true
sends (Control d) Init = true
sends (Control d) Poll = true
sends (Control d) Done = true
sends (OfUnit u) s = unit_sends u.side s
sends (OfHost h) FromHost = true
sends _ _ = false

abbrev pub unit_receives : Side → Sort → Bool
unit_receives Ingress FromHost = true
unit_receives Ingress Cable = true
unit_receives Ingress Init = true
unit_receives Egress Crossbar = true
unit_receives _ Poll = true
unit_receives _ _ = false

abbrev pub receives : ActorId → Sort → Bool
receives Observer Done = true
receives (Control d) Begin = true
receives (Control d) Notice = true
receives (Control d) Dump = true
receives (OfUnit u) s = unit_receives u.side s
receives (OfHost h) ToHost = true
receives _ _ = false

-- the device of a control plane or a unit
abbrev pub home : ActorId → ℕ
home (Control d) = d
home (OfUnit u) = u.device
home _ = 0

-- the sorts of the links inside a device
abbrev pub is_inner : Sort → Bool
is_inner Crossbar = true
is_inner Init = true
is_inner Poll = true
is_inner Notice = true
is_inner Dump = true
is_inner _ = false

-- the ends of a link are actors of the parts; the link is one of those that come to its receiver, and inside a device both are of this
pub record HasEnds (net : Net) (l : ℕ) : Type 0 where
  pub sender : ActorId
  pub receiver : ActorId
  pub is_sender : IsActor net.parts sender
  pub is_receiver : IsActor net.parts receiver
  pub from : (link_of net l).from ≡ place_of sender net.actors
  pub to : (link_of net l).to ≡ place_of receiver net.actors
  pub from_is : actor_of net (link_of net l).from ≡ sender
  pub to_is : actor_of net (link_of net l).to ≡ receiver
  pub listed : Member (sender, (link_of net l).sort) (incoming net.parts receiver)
  pub sent : sends sender (link_of net l).sort ≡ true
  pub received : receives receiver (link_of net l).sort ≡ true
  pub inner : is_inner (link_of net l).sort ≡ true → home sender ≡ home receiver

-- a unit has one link of notices and one of dumps, both to its control plane; each link of polls to it is one, from this control plane;
-- and the control plane has one link of Dones, to the observer
pub record Reports (net : Net) (u : ℕ) : Type 0 where
  pub control : ℕ
  pub device : ℕ
  pub is_control : actor_of net control ≡ Control device
  pub notice : ℕ
  pub notices : links_out net u Notice ≡ notice ∷ []
  pub notice_to : (link_of net notice).to ≡ control
  pub dump : ℕ
  pub dumps : links_out net u Dump ≡ dump ∷ []
  pub dump_to : (link_of net dump).to ≡ control
  pub poll : ℕ
  pub polled : (l : ℕ) → (link_of net l).to ≡ u → (link_of net l).sort ≡ Poll → l ≡ poll
  pub poll_link : poll < length net.links
  pub poll_sort : (link_of net poll).sort ≡ Poll
  pub poll_from : (link_of net poll).from ≡ control
  pub poll_to : (link_of net poll).to ≡ u
  pub done : ℕ
  pub dones : links_out net control Done ≡ done ∷ []
  pub done_to : (link_of net done).to ≡ 0
  -- what these links are, and by which choices they are taken
  pub notice_out : IsOut net u Notice notice
  pub dump_out : IsOut net u Dump dump
  pub done_out : IsOut net control Done done
  pub one_done : (l : ℕ) → IsOut net control Done l → l ≡ done
  pub polls : Each (IsOut net control Poll) (links_out net control Poll)
  pub poll_listed : Member poll (links_out net control Poll)
  pub notice_taken : slice_get (links_into net control) (choice_of net notice) ≡ Some notice
  pub dump_taken : slice_get (links_into net control) (choice_of net dump) ≡ Some dump
  pub poll_taken : slice_get (links_into net u) (choice_of net poll) ≡ Some poll
  pub done_taken : slice_get (links_into net 0) (choice_of net done) ≡ Some done
  pub poll_choice : (c l : ℕ) → slice_get (links_into net u) c ≡ Some l → (link_of net l).sort ≡ Poll → c ≡ choice_of net poll
  pub notice_choice : choice_from net control u Notice ≡ choice_of net notice
  pub dump_choice : choice_from net control u Dump ≡ choice_of net dump
  -- the unit has a place of its own among the units
  pub one_unit : (x : ℕ) → unit_place net x ≡ unit_place net u → x ≡ u
  -- the control plane serves the unit by these choices, and no other one does
  pub served_here : Each (λ v. v.unit ≡ u → v.dump ≡ choice_of net dump) (served net control)
  pub served_elsewhere : (b : ℕ) → (b ≡ control → ⊥) → Each (λ v. v.unit ≡ u → ⊥) (served net b)

-- a net is made of parts without a fault
pub record IsNet (net : Net) : Type 0 where
  pub made : net ≡ net_of net.parts
  pub right : fault_of net.parts ≡ None

-- a host has one link to it, and one from it, on which it puts its frames
pub record HostLinks (net : Net) (a : ℕ) : Type 0 where
  pub one_in : length (links_into net a) ≡ 1
  pub out : ℕ
  pub outs : links_from net a ≡ out ∷ []
  pub puts_on : links_out net a FromHost ≡ out ∷ []
  pub is_out : out_of net out ≡ 0

pub record IsWired (net : Net) : Type 0 where
  pub ways : HasWays net
  -- the observer is the actor 0, and no other is one
  pub observer : actor_of net 0 ≡ Observer
  pub one_observer : (a : ℕ) → actor_of net a ≡ Observer → a ≡ 0
  -- a link leads from an actor that sends its sort to one that receives it
  pub sender : (l : ℕ) → l < length net.links → sends (actor_of net (link_of net l).from) (link_of net l).sort ≡ true
  pub receiver : (l : ℕ) → l < length net.links → receives (actor_of net (link_of net l).to) (link_of net l).sort ≡ true
  -- cables and crossbars come from units, initiations and Dones from control planes, Begins from the observer to these; polls from these to units
  pub data_from : (l : ℕ) → l < length net.links → ((link_of net l).sort ≡ Cable) ⊎ ((link_of net l).sort ≡ Crossbar)
      → (i : UnitId) × (actor_of net (link_of net l).from ≡ OfUnit i)
  pub init_from : (l : ℕ) → l < length net.links → (link_of net l).sort ≡ Init → (d : ℕ) × (actor_of net (link_of net l).from ≡ Control d)
  pub done_from : (l : ℕ) → l < length net.links → (link_of net l).sort ≡ Done → (d : ℕ) × (actor_of net (link_of net l).from ≡ Control d)
  pub begin_from : (l : ℕ) → l < length net.links → (link_of net l).sort ≡ Begin → (link_of net l).from ≡ 0
  pub begin_to : (l : ℕ) → l < length net.links → (link_of net l).sort ≡ Begin → (d : ℕ) × (actor_of net (link_of net l).to ≡ Control d)
  pub poll_from : (l : ℕ) → l < length net.links → (link_of net l).sort ≡ Poll → (d : ℕ) × (actor_of net (link_of net l).from ≡ Control d)
  pub poll_to : (l : ℕ) → l < length net.links → (link_of net l).sort ≡ Poll → (i : UnitId) × (actor_of net (link_of net l).to ≡ OfUnit i)
  -- a link has its ends, which with its sort tell it from all others, and leads to an actor of the net
  pub ends : (l : ℕ) → l < length net.links → HasEnds net l
  pub one_link : (l k : ℕ) → l < length net.links → k < length net.links → (link_of net l).from ≡ (link_of net k).from
      → (link_of net l).to ≡ (link_of net k).to → (link_of net l).sort ≡ (link_of net k).sort → l ≡ k
  pub to_actor : (l : ℕ) → l < length net.links → (link_of net l).to < length net.actors
  -- a control plane takes Begins by its first choice, and no actor by another
  pub begins : (a d : ℕ) → actor_of net a ≡ Control d → (l : ℕ) × (slice_get (links_into net a) 0 ≡ Some l) × ((link_of net l).sort ≡ Begin)
  pub begin_first : (a c l : ℕ) → slice_get (links_into net a) c ≡ Some l → (link_of net l).sort ≡ Begin → c ≡ 0
  pub reports : (u : ℕ) (i : UnitId) → actor_of net u ≡ OfUnit i → Reports net u
  -- the parts are valid; at most 128 of them are hosts, and a device uses at most eight ports
  pub valid : IsValid net.parts
  pub few_hosts : length net.parts.hosts ≤ 128
  pub few_actors : length net.actors ≤ 1217
  pub few_used : (d : ℕ) → length (used_ports net.parts d) ≤ 8
  -- the actors are those of the parts, and an actor's place is its number
  pub actor : (a : ℕ) → a < length net.actors → IsActor net.parts (actor_of net a)
  pub actor_at : (x : ActorId) → IsActor net.parts x → actor_of net (place_of x net.actors) ≡ x
  pub place_low : (x : ActorId) → IsActor net.parts x → place_of x net.actors < length net.actors
  pub numbered : (a : ℕ) (x : ActorId) → actor_of net a ≡ x → (x ≡ nobody → ⊥) → place_of x net.actors ≡ a
  pub place : (a : ℕ) → a < length net.actors → place_of (actor_of net a) net.actors ≡ a
  -- a host has one link each way; a unit has at most eight data channels, and takes initiations by one choice at most
  pub host_links : (a i : ℕ) → slice_get net.actors a ≡ Some (OfHost i) → HostLinks net a
  pub few_channels : (u : ℕ) (i : UnitId) → actor_of net u ≡ OfUnit i → length (data_channels net u) ≤ 8
  pub one_init : (u : ℕ) (i : UnitId) → actor_of net u ≡ OfUnit i → length (choices_of net u Init) ≤ 1
  -- the observer takes the Dones of a unit by the choice of the unit's device
  pub done_choice : (u : ℕ) (i : UnitId) → actor_of net u ≡ OfUnit i → (r : Reports net u) → choice_of net r.done ≡ i.device
