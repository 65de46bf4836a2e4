-- Trusted text for nodes, but for side_of, unit_at, IsRanged.
-- A unit of a net. a is its actor's number.
use Rattle.std.specs.Prelude.{ℕ, ◌<◌, ◌≤◌, Bool, false, List, [], length, map, Option, Some, None, slice_index}
use Rattle.sl_layout.specs.declared.actor.Side.{Side}
use Rattle.sl_layout.specs.declared.actor.Side.TheVariants.{Ingress, Egress}
use Rattle.sl_layout.specs.declared.actor.ActorId.{ActorId}
use Rattle.sl_layout.specs.declared.actor.ActorId.TheVariants.{Unit as OfUnit}
use Rattle.sl_layout.specs.declared.actor.Sort.{Sort}
use Rattle.sl_layout.specs.declared.actor.Sort.TheVariants.{FromHost, Cable as CableSort, Crossbar as CrossbarSort, Init as InitSort, Poll as PollSort}
use Rattle.sl_layout.specs.Devices.{device_of}
use Rattle.sl_net.specs.declared.input.Snapshot.{Snapshot}
use Rattle.sl_ids.specs.Ids.{most_bits, modulus}
use Rattle.sl_parts.specs.declared.parts.CablePart.{CablePart}
use Rattle.sl_parts.specs.Parts.{below, version_at}
use Rattle.sl_layout.specs.Net.{Net, same_actor, ingress, actor_of, link_of, link_at, links_into, links_from, place_in, data_channels, units}
use Rattle.sl_route.specs.Route.{next_port}
use Rattle.sl_unit.specs.declared.wires.Entrance.{Entrance}
use Rattle.sl_unit.specs.declared.wires.Entrance.TheVariants.{Host, Cable, Crossbar, Init, Poll, Other}
use Rattle.sl_unit.specs.declared.wires.Exit.{Exit}
use Rattle.sl_unit.specs.Wires.{Wires}
use Rattle.sl_unit.specs.Registers.{first_registers}
use Rattle.sl_unit.specs.Step.{UnitState}

abbrev pub side_of : ActorId → Option Side
side_of (OfUnit u) = Some u.side
side_of _ = None

-- the port of a unit
abbrev pub port_of : ActorId → ℕ
port_of (OfUnit u) = u.port
port_of _ = 0

-- the unit at a place among the units
abbrev pub unit_at : Net → ℕ → ActorId
unit_at net unit = actor_of net (slice_index (units net) unit)

-- whether one is the ingress unit of the port of the other
abbrev pub is_own : ActorId → ActorId → Bool
is_own (OfUnit u) b = same_actor b (ingress u.device u.port)
is_own _ b = false

-- what comes by a link of a sort, where the channel's place is i
abbrev pub entrance : Sort → ℕ → Bool → Entrance
entrance FromHost i own = Host
entrance CableSort i own = Cable i
entrance CrossbarSort i own = Crossbar i own
entrance InitSort i own = Init
entrance PollSort i own = Poll
entrance _ i own = Other

abbrev pub entrance_by : Net → ℕ → ℕ → Entrance
entrance_by net a c = let link = link_of net (link_at net a c) in
    entrance link.sort (place_in 0 c (data_channels net a)) (is_own (actor_of net a) (actor_of net link.from))

abbrev pub entrances_of : Net → ℕ → List Entrance
entrances_of net a = map (entrance_by net a) (below (length (links_into net a)))

-- the outgoing links, numbered in ascending order
abbrev pub exit_by : Net → ℕ → Exit
exit_by net l = record { sort = (link_of net l).sort; to = actor_of net (link_of net l).to }

abbrev pub exits_of : Net → ℕ → List Exit
exits_of net a = map (exit_by net) (links_from net a)

-- the next port to each host
abbrev pub ports_of : Net → ℕ → List (Option ℕ)
ports_of net d = map (next_port net.parts d) (below (length net.parts.hosts))

-- that of its cable of an egress unit
abbrev pub version_on : List CablePart → ℕ → ℕ → ℕ → Side → ℕ
version_on cables version device port Ingress = version
version_on cables version device port Egress = version_at version cables (record { device = device; port = port })

-- the version of the frames that an actor sends to units, where the snapshot table has another: what leaves an egress unit goes on its cable
abbrev pub version_of : List CablePart → ℕ → ActorId → ℕ
version_of cables version (OfUnit u) = version_on cables version u.device u.port u.side
version_of cables version _ = version

abbrev pub wires_of : Net → ℕ → List (Option ℕ) → Snapshot → Wires
wires_of net a ports n = record {
  device = device_of (actor_of net a);
  port = port_of (actor_of net a);
  entrances = entrances_of net a;
  exits = exits_of net a;
  ports = ports;
  bits = n.width;
  version = version_of net.parts.cables n.version (actor_of net a);
  actions = 0;
}

abbrev pub first_state : Wires → Snapshot → UnitState
first_state wires n = record { wires = wires; window = n.window; credits = n.credits; registers = first_registers n.ring }

abbrev pub ingress_state : Net → ℕ → Snapshot → UnitState
ingress_state net a n = first_state (wires_of net a (ports_of net (device_of (actor_of net a))) n) n

-- an egress unit routes nothing
abbrev pub egress_state : Net → ℕ → Snapshot → UnitState
egress_state net a n = first_state (wires_of net a [] n) n

-- a snapshot table within the ranges that machines need
pub record IsRanged (n : Snapshot) : Type 0 where
  pub some_bits : 1 ≤ n.width
  pub few_bits : n.width ≤ most_bits
  pub some_window : 1 ≤ n.window
  pub few_window : n.window < modulus n.width
  pub some_ring : n.window ≤ n.ring
  pub some_credits : 1 ≤ n.credits
  pub few_credits : n.credits ≤ 4
