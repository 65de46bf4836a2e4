-- How many turns a packet or a frame may still take, along its route.
--     enter_fare net dst h l     a packet to the host dst with h hops left, on a link into an ingress unit
--     leave_fare net into u      a packet at an egress unit, where it takes into l turns on a cable l
--     packet_fare, frame_fare    a packet, a frame on any link
use Rattle.std.specs.Prelude.{◌+◌, List, None, Option, Some, suc, zero, ℕ, length}
use Rattle.sl_layout.specs.Net.{Net, actor_of, link_of, links_out}
use Rattle.sl_layout.specs.declared.actor.ActorId.{ActorId}
use Rattle.sl_layout.specs.declared.actor.ActorId.TheVariants.{Unit as OfUnit}
use Rattle.sl_layout.specs.declared.actor.Side.{Side}
use Rattle.sl_layout.specs.declared.actor.Side.TheVariants.{Egress, Ingress}
use Rattle.sl_layout.specs.declared.actor.Sort.TheVariants.{Cable, ToHost}
use Rattle.sl_net.specs.declared.input.Packet.{Packet}
use Rattle.sl_net.specs.Wired.{home}
use Rattle.sl_model.specs.Frame.{packet_of}
use Rattle.sl_model.specs.Puts.{crossbar_to}
use Rattle.sl_route.specs.Route.{next_port}
use Rattle.sl_model.specs.Words.{weigh}

-- the device to which a link leads
abbrev pub device_at : Net → ℕ → ℕ
device_at net l = home (actor_of net (link_of net l).to)

abbrev pub leave_fare : Net → (ℕ → ℕ) → ℕ → ℕ
leave_fare net into u = suc (weigh into (links_out net u Cable) + length (links_out net u ToHost))

abbrev pub onward_fare : Net → ℕ → ℕ → (ℕ → ℕ) → Option ℕ → ℕ
onward_fare net u d into None = 0
onward_fare net u d into (Some port) = weigh (λ l. leave_fare net into (link_of net l).to) (crossbar_to net u d port)

abbrev pub enter_fare : Net → ℕ → ℕ → ℕ → ℕ
enter_fare net dst zero l = 1
enter_fare net dst (suc h) l = suc (onward_fare net (link_of net l).to (device_at net l) (λ m. enter_fare net dst h m) (next_port net.parts (device_at net l) dst))

abbrev pub packet_side : Net → ℕ → ℕ → ℕ → Side → ℕ
packet_side net dst h l Ingress = enter_fare net dst h l
packet_side net dst h l Egress = leave_fare net (λ m. enter_fare net dst h m) (link_of net l).to

abbrev pub packet_to : Net → ℕ → ℕ → ℕ → ActorId → ℕ
packet_to net dst h l (OfUnit i) = packet_side net dst h l i.side
packet_to net dst h l _ = 1

abbrev pub packet_fare : Net → ℕ → Packet → ℕ
packet_fare net l p = packet_to net p.dst p.hops l (actor_of net (link_of net l).to)

abbrev pub frame_in : Net → ℕ → Option Packet → ℕ
frame_in net l None = 1
frame_in net l (Some p) = enter_fare net p.dst p.hops l

abbrev pub frame_side : Net → ℕ → List ℕ → Side → ℕ
frame_side net l b Ingress = frame_in net l (packet_of b)
frame_side net l b Egress = 1

abbrev pub frame_to : Net → ℕ → List ℕ → ActorId → ℕ
frame_to net l b (OfUnit i) = frame_side net l b i.side
frame_to net l b _ = 1

abbrev pub frame_fare : Net → ℕ → List ℕ → ℕ
frame_fare net l b = frame_to net l b (actor_of net (link_of net l).to)
