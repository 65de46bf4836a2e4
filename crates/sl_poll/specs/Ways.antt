-- What units and hosts put on the links that data packets go by.
use Rattle.std.specs.Prelude.{ℕ, ◌-◌, Bool, true, false, ◌&&◌, List, [], ◌∷◌, map, filter, ◌==◌, if◌then◌else◌, Option, Some, None, slice_get, slice_set, slice_index_or, option_and_then, ◌+◌, cond}
use Rattle.sl_layout.specs.declared.actor.ActorId.{ActorId}
use Rattle.sl_layout.specs.declared.actor.ActorId.TheVariants.{Unit as OfUnit, Host as OfHost}
use Rattle.sl_layout.specs.declared.actor.Side.{Side}
use Rattle.sl_layout.specs.declared.actor.Side.TheVariants.{Ingress, Egress}
use Rattle.sl_layout.specs.declared.actor.Sort.{Sort}
use Rattle.sl_layout.specs.declared.actor.Sort.TheVariants.{FromHost, Cable, Crossbar, Init}
use Rattle.sl_layout.specs.declared.actor.UnitId.{UnitId}
use Rattle.sl_layout.specs.Net.{Net, same_actor, same_sort, actor_of, link_of, links_from, is_unit, unit_place}
use Rattle.sl_net.specs.declared.input.Packet.{Packet}
use Rattle.sl_net.specs.declared.input.RawPart.{RawPart}
use Rattle.sl_net.specs.Input.{Input}
use Rattle.sl_parts.specs.Parts.{Parts}
use Rattle.sl_route.specs.Route.{next_port}
use Rattle.sl_model.specs.Frame.{packet_of}
use Rattle.sl_model.specs.Losses.{loss_on}
use Rattle.sl_model.specs.Matching.{is_data}
use Rattle.sl_model.specs.Puts.{is_own_port}
use Rattle.sl_model.specs.Setup.{Setup, frames_of}
use Rattle.sl_poll.specs.declared.lane.Mark.{Mark}
use Rattle.sl_poll.specs.declared.trail.Pair.{Pair}
use Rattle.sl_poll.specs.declared.trail.Counted.{Counted}
use Rattle.sl_poll.specs.declared.way.Way.{Way}
use Rattle.sl_poll.specs.declared.way.Way.TheVariants.{Along, Across}
use Rattle.sl_poll.specs.declared.way.Sends.{Sends}
use Rattle.sl_poll.specs.Lanes.{Lane, new_lane, lane_at, without_first, put_each}
use Rattle.sl_poll.specs.Trail.{count_of}

-- data packets and frames go by links of these sorts
abbrev pub bears : Sort → Bool
bears FromHost = true
bears Cable = true
bears Crossbar = true
bears _ = false

-- a link leads this way
abbrev pub leads : Net → Way → ℕ → Bool
leads net (Along s) l = same_sort (link_of net l).sort s
leads net (Across u) l = same_sort (link_of net l).sort Crossbar && same_actor (actor_of net (link_of net l).to) (OfUnit u)

abbrev pub links_by : Net → ℕ → Way → List ℕ
links_by net a way = filter (leads net way) (links_from net a)

-- What a unit puts that took a message with this packet, or one with none.

abbrev pub to_port : ℕ → Packet → Option ℕ → Option Sends
to_port d q None = None
to_port d q (Some port) = Some (record { packet = Some q; way = Across (record { device = d; port = port; side = Egress }) })

abbrev pub routed : Parts → ℕ → Option Packet → Option Sends
routed parts d None = None
routed parts d (Some q) = if q.hops == 0 then None else to_port d (record q { hops = q.hops - 1 }) (next_port parts d q.dst)

abbrev pub from_ingress : Parts → ℕ → Sort → Option Packet → Option Sends
from_ingress parts d s q = if same_sort s Init then Some (record { packet = None; way = Along Crossbar }) else routed parts d q

abbrev pub from_egress : Net → UnitId → ℕ → Sort → Option Packet → Option Sends
from_egress net i l s (Some q) = Some (record { packet = Some q; way = Along Cable })
from_egress net i l s None = if is_data s && is_own_port net i.device i.port l then Some (record { packet = None; way = Along Cable }) else None

abbrev pub from_side : Net → UnitId → Side → ℕ → Sort → Option Packet → Option Sends
from_side net i Ingress l s q = from_ingress net.parts i.device s q
from_side net i Egress l s q = from_egress net i l s q

abbrev pub sends_of : Net → ActorId → ℕ → Option Packet → Option Sends
sends_of net (OfUnit i) l q = from_side net i i.side l (link_of net l).sort q
sends_of net _ l q = None

-- the links after that
abbrev pub send_by : Net → ℕ → ℕ → Option Sends → List Lane → List Lane
send_by net n a None lanes = lanes
send_by net n a (Some x) lanes = put_each (record { put = n; packet = x.packet }) (links_by net a x.way) lanes

-- What is taken.

abbrev pub first_mark : List Lane → ℕ → Bool → Option Mark
first_mark lanes l true = slice_get (lane_at lanes l).queue 0
first_mark lanes l false = None

abbrev pub rest_of : List Lane → ℕ → Bool → List Lane
rest_of lanes l true = slice_set lanes l (without_first (lane_at lanes l))
rest_of lanes l false = lanes

abbrev pub packet_on : Option Mark → Option Packet
packet_on m = option_and_then (λ x. x.packet) m

abbrev pub pair_for : Bool → ℕ → ℕ → Mark → Option Packet → List Pair
pair_for data_channel l n m None = []
pair_for data_channel l n m (Some p) = cond data_channel (record { link = l; put = m.put; take = n } ∷ []) []

abbrev pub paired : Bool → ℕ → ℕ → Option Mark → List Pair
paired data_channel l n None = []
paired data_channel l n (Some m) = pair_for data_channel l n m m.packet

abbrev pub counts : Net → ℕ → ℕ → Option Packet → List Counted
counts net a n q = cond (is_unit (actor_of net a)) (count_of (unit_place net a) n q) []

-- Frames of hosts.

-- the packets of the frames that a host sends, and how many of these it sent
pub record Feed : Type 0 where
  pub frames : List (Option Packet)
  pub sent : ℕ

abbrev pub packets_in : List Packet → List (Option Packet)
packets_in ps = map Some ps

abbrev pub raws_in : List RawPart → ℕ → List (Option Packet)
raws_in raws h = map (λ r. packet_of r.bytes) (filter (λ r. r.from == h) raws)

abbrev pub no_feed : Feed
no_feed = record { frames = []; sent = 0 }

abbrev pub feed_at : List Feed → ℕ → Feed
feed_at feeds a = slice_index_or feeds a no_feed

abbrev pub next_of : Feed → Option (Option Packet)
next_of f = slice_get f.frames f.sent

abbrev pub more_sent : ℕ → Option (Option Packet) → ℕ
more_sent n None = n
more_sent n (Some q) = n + 1

abbrev pub after_next : Feed → Feed
after_next f = record { frames = f.frames; sent = more_sent f.sent (next_of f) }

abbrev pub injected : Option (Option Packet) → Option Sends
injected None = None
injected (Some q) = Some (record { packet = q; way = Along FromHost })

-- what an actor sends that is a host
abbrev pub frames_for : Setup → ActorId → List (List ℕ)
frames_for s (OfHost h) = frames_of s h
frames_for s _ = []

-- An entry: what it leaves on the links and to hosts, and what it tells. o is the link of its choice, or None where this is an action.

abbrev pub lanes_after : Net → ℕ → ℕ → Option ℕ → List Lane → List Feed → List Lane
lanes_after net n a (Some l) lanes feeds = send_by net n a (sends_of net (actor_of net a) l (packet_on (first_mark lanes l (bears (link_of net l).sort))))
    (rest_of lanes l (bears (link_of net l).sort))
lanes_after net n a None lanes feeds = send_by net n a (injected (next_of (feed_at feeds a))) lanes

abbrev pub feeds_after : ℕ → Option ℕ → List Feed → List Feed
feeds_after a (Some l) feeds = feeds
feeds_after a None feeds = slice_set feeds a (after_next (feed_at feeds a))

abbrev pub pairs_told : Net → ℕ → Option ℕ → List Lane → List Pair
pairs_told net n (Some l) lanes = paired (is_data (link_of net l).sort) l n (first_mark lanes l (bears (link_of net l).sort))
pairs_told net n None lanes = []

abbrev pub counts_told : Net → ℕ → ℕ → Option ℕ → List Lane → List Counted
counts_told net n a (Some l) lanes = counts net a n (packet_on (first_mark lanes l (bears (link_of net l).sort)))
counts_told net n a None lanes = []

-- Where nothing has happened.

abbrev pub first_lane : Input → ℕ → Lane
first_lane i l = new_lane (loss_on i l)

abbrev pub first_feed : Setup → ℕ → Feed
first_feed s a = record { frames = map packet_of (frames_for s (actor_of s.net a)); sent = 0 }
