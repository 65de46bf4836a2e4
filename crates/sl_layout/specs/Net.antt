-- Trusted text.
-- The network: its actors, its links, and what an actor may choose.
--     actors      the observer; for each device its control plane and its units; the hosts
--     links       for each actor those that it takes from, in the order of its choices
use Rattle.std.specs.Prelude.{ℕ, suc, ◌^◌, Bool, true, false, ◌&&◌, List, [], ◌∷◌, ◌++◌, map, filter, flat_map, length, ◌==◌, if◌then◌else◌, Option, Some, None, slice_index_or, slice_get}
use Rattle.sl_layout.specs.declared.actor.Side.{Side}
use Rattle.sl_layout.specs.declared.actor.Side.TheVariants.{Ingress, Egress}
use Rattle.sl_layout.specs.declared.actor.ActorId.{ActorId}
use Rattle.sl_layout.specs.declared.actor.ActorId.TheVariants.{Observer, Control, Unit as OfUnit, Host as OfHost}
use Rattle.sl_layout.specs.declared.actor.Sort.{Sort}
use Rattle.sl_layout.specs.declared.actor.Sort.TheVariants.{FromHost, ToHost, Cable, Crossbar, Init, Poll, Notice, Dump, Begin, Done}
use Rattle.sl_layout.specs.declared.actor.LinkPart.{LinkPart}
use Rattle.sl_parts.specs.declared.parts.PortRef.{PortRef}
use Rattle.sl_parts.specs.Parts.{Parts, below, other_end, host_at, used_ports}

abbrev pub same_side : Side → Side → Bool
same_side Ingress Ingress = true
same_side Egress Egress = true
same_side _ _ = false

abbrev pub same_actor : ActorId → ActorId → Bool
same_actor Observer Observer = true
same_actor (Control d) (Control e) = d == e
same_actor (OfUnit u) (OfUnit v) = (u.device == v.device) && ((u.port == v.port) && same_side u.side v.side)
same_actor (OfHost h) (OfHost i) = h == i
same_actor _ _ = false

abbrev pub sort_number : Sort → ℕ
sort_number FromHost = 0
sort_number ToHost = 1
sort_number Cable = 2
sort_number Crossbar = 3
sort_number Init = 4
sort_number Poll = 5
sort_number Notice = 6
sort_number Dump = 7
sort_number Begin = 8
sort_number Done = 9

abbrev pub same_sort : Sort → Sort → Bool
same_sort s t = sort_number s == sort_number t

-- Actors.

abbrev pub ingress : ℕ → ℕ → ActorId
ingress d p = OfUnit (record { device = d; port = p; side = Ingress })

abbrev pub egress : ℕ → ℕ → ActorId
egress d p = OfUnit (record { device = d; port = p; side = Egress })

abbrev pub units_of : Parts → ℕ → List ActorId
units_of parts d = flat_map (λ p. ingress d p ∷ egress d p ∷ []) (used_ports parts d)

abbrev pub actors_of : Parts → List ActorId
actors_of parts = Observer ∷ (flat_map (λ d. Control d ∷ units_of parts d) (below (length parts.devices)) ++ map OfHost (below (length parts.hosts)))

-- Links. An incoming link is known by its sender and its sort.

abbrev pub Incoming : Type 0
Incoming = ActorId × Sort

-- from the host at a port, or else from the egress unit at the other end of its cable
abbrev pub from_host_or_cable : Option ℕ → Option PortRef → List Incoming
from_host_or_cable (Some h) o = (OfHost h, FromHost) ∷ []
from_host_or_cable None (Some q) = (egress q.device q.port, Cable) ∷ []
from_host_or_cable None None = []

abbrev pub from_outside : Parts → PortRef → List Incoming
from_outside parts p = from_host_or_cable (host_at parts p) (other_end parts.cables p)

abbrev pub unit_incoming : Parts → ℕ → ℕ → Side → List Incoming
unit_incoming parts d p Ingress = from_outside parts (record { device = d; port = p }) ++ (Control d, Init) ∷ (Control d, Poll) ∷ []
unit_incoming parts d p Egress = map (λ q. (ingress d q, Crossbar)) (used_ports parts d) ++ (Control d, Poll) ∷ []

abbrev pub to_host : Option PortRef → List Incoming
to_host None = []
to_host (Some p) = (egress p.device p.port, ToHost) ∷ []

-- what an actor takes from, in the order of its choices
abbrev pub incoming : Parts → ActorId → List Incoming
incoming parts Observer = map (λ d. (Control d, Done)) (below (length parts.devices))
incoming parts (Control d) = (Observer, Begin) ∷ flat_map (λ u. (u, Notice) ∷ (u, Dump) ∷ []) (units_of parts d)
incoming parts (OfUnit u) = unit_incoming parts u.device u.port u.side
incoming parts (OfHost h) = to_host (slice_get (map (λ part. part.at) parts.hosts) h)

-- the number of an actor
abbrev pub place_of : ActorId → List ActorId → ℕ
place_of a [] = 0
place_of a (b ∷ bs) = if same_actor a b then 0 else suc (place_of a bs)

abbrev pub links_to : Parts → List ActorId → ActorId → List LinkPart
links_to parts actors a = map (λ i. record { from = place_of i.0 actors; to = place_of a actors; sort = i.1 }) (incoming parts a)

-- Actors and links are numbered from 0 in the order of these lists.
pub record Net : Type 0 where
  pub parts : Parts
  pub actors : List ActorId
  pub links : List LinkPart

abbrev pub net_of : Parts → Net
net_of parts = record { parts = parts; actors = actors_of parts; links = flat_map (links_to parts (actors_of parts)) (actors_of parts) }

-- Look-ups by number.

-- what a number past the last actor looks up: a host that no net has
abbrev pub nobody : ActorId
nobody = OfHost (2 ^ 32)

abbrev pub actor_of : Net → ℕ → ActorId
actor_of net a = slice_index_or net.actors a nobody

abbrev pub no_link : LinkPart
no_link = record { from = 0; to = 0; sort = ToHost }

abbrev pub link_of : Net → ℕ → LinkPart
link_of net l = slice_index_or net.links l no_link

abbrev pub link_numbers : Net → List ℕ
link_numbers net = below (length net.links)

-- the links that an actor takes from, in the order of its choices
abbrev pub links_into : Net → ℕ → List ℕ
links_into net a = filter (λ l. (link_of net l).to == a) (link_numbers net)

-- the links on which an actor puts, ascending
abbrev pub links_from : Net → ℕ → List ℕ
links_from net a = filter (λ l. (link_of net l).from == a) (link_numbers net)

-- those of a sort
abbrev pub links_out : Net → ℕ → Sort → List ℕ
links_out net a s = filter (λ l. same_sort (link_of net l).sort s) (links_from net a)

-- the link of an actor's choice
abbrev pub link_at : Net → ℕ → ℕ → ℕ
link_at net a c = slice_index_or (links_into net a) c 0

-- the choices of an actor that take from links of a sort
abbrev pub choices_of : Net → ℕ → Sort → List ℕ
choices_of net a s = filter (λ c. same_sort (link_of net (link_at net a c)).sort s) (below (length (links_into net a)))

-- the choice number of an actor's first own action
abbrev pub action_choice : Net → ℕ → ℕ
action_choice net a = length (links_into net a)

-- the place of a number in a list, counted from n
abbrev pub place_in : ℕ → ℕ → List ℕ → ℕ
place_in n x [] = n
place_in n x (y ∷ ys) = if y == x then n else place_in (suc n) x ys

-- the choice by which a link is taken
abbrev pub choice_of : Net → ℕ → ℕ
choice_of net l = place_in 0 l (links_into net (link_of net l).to)

-- Units, by their actors' numbers, in order.

abbrev pub is_unit : ActorId → Bool
is_unit (OfUnit u) = true
is_unit _ = false

abbrev pub units : Net → List ℕ
units net = filter (λ a. is_unit (actor_of net a)) (below (length net.actors))

-- the place of a unit among the units
abbrev pub unit_place : Net → ℕ → ℕ
unit_place net a = place_in 0 a (units net)

abbrev pub is_host : ActorId → Bool
is_host (OfHost h) = true
is_host _ = false

abbrev pub hosts : Net → List ℕ
hosts net = filter (λ a. is_host (actor_of net a)) (below (length net.actors))

-- the data channels of a unit, as choices: its cable, or its crossbar links
abbrev pub data_channels : Net → ℕ → List ℕ
data_channels net u = choices_of net u Cable ++ choices_of net u Crossbar
