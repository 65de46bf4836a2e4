-- Findings as a scene of nodes tells them, with no history in sight: by what the observer collected, what hosts sent and took, what units
-- counted, and what links lost.
--     HasAllRows net o      what the observer has of each unit fits, with no row missing
--     CanTell net v o       what is asked of a scene v of the net whose observer has the state o
--     told net count v o    its findings of so many snapshots
use Rattle.std.specs.Prelude.{◌≡◌, ℕ, ◌<◌, ◌^◌, min, List, map, filter, length, take, Option, Some, None, option_map, slice_index}
use Rattle.std.specs.List.{fold, range_with_len}
use Rattle.sl_layout.specs.declared.actor.Sort.{Sort}
use Rattle.sl_layout.specs.declared.actor.Sort.TheVariants.{Cable, Crossbar, Init, Notice}
use Rattle.sl_layout.specs.Net.{Net, same_sort, link_of, link_numbers, units, data_channels}
use Rattle.sl_saves.specs.declared.entry.Saved.{Saved}
use Rattle.sl_saves.specs.declared.entry.Saved.TheVariants.{Value}
use Rattle.sl_wire.specs.declared.message.Msg.{Msg}
use Rattle.sl_observe.specs.Observer.{UnitState, ObserverState, unit_at, register_floor}
use Rattle.sl_model.specs.declared.findings.Drops.{Drops}
use Rattle.sl_model.specs.declared.findings.Findings.{Findings}
use Rattle.sl_model.specs.Words.{numbers, weigh}
use Rattle.sl_model.specs.Accounts.{Account, finding_by}
use Rattle.sl_simulation.specs.ObserverImage.{account_of}
use Rattle.sl_world.specs.Scene.{Scene, line_at}
use Rattle.sl_proto.specs.declared.node.Traffic.{Traffic}
use Rattle.sl_proto.specs.Nodes.{NodeOf, NodeState, UnitNode, HostNode}

-- The observer.

-- the unit u has these data channels, and a row came for each number that its id and their last-seen numbers have reached
pub record HasRows (net : Net) (u : ℕ) (x : UnitState) : Type 0 where
  pub channels : x.channels ≡ length (data_channels net u)
  pub rows : length x.rows ≡ fold min x.id (take x.channels x.last)

pub record HasAllRows (net : Net) (o : ObserverState) : Type 0 where
  pub count : length o.units ≡ length (units net)
  pub each : (place : ℕ) → place < length (units net) → HasRows net (slice_index (units net) place) (unit_at o.units place)

abbrev pub accounts_of : ObserverState → List Account
accounts_of o = map account_of o.units

-- a row that is a value
abbrev pub IsValue : Option Saved → Type 0
IsValue (Some (Value packets bytes inflight)) = Unit {0}
IsValue _ = ⊥

-- Nodes.

-- how many frames a host sent, and how many it took
abbrev pub sent_told : {S : Type 0} → NodeOf S → Option ℕ
sent_told (HostNode h) = Some h.sent
sent_told _ = None

abbrev pub delivered_told : {S : Type 0} → NodeOf S → Option ℕ
delivered_told (HostNode h) = Some h.delivered
delivered_told _ = None

-- what a node tells of the host that it is
pub record IsTraffic {S : Type 0} (s : NodeOf S) (told : Option Traffic) : Type 0 where
  pub sent : option_map (λ t. t.sent) told ≡ sent_told s
  pub delivered : option_map (λ t. t.delivered) told ≡ delivered_told s

-- what a unit dropped; only ingress units drop
abbrev pub drops_told : NodeState → Drops
drops_told (UnitNode u) = record { bad = u.registers.bad; expired = u.registers.expired; noroute = u.registers.noroute }
drops_told _ = record { bad = 0; expired = 0; noroute = 0 }

abbrev pub all_drops : List NodeState → Drops
all_drops states = record {
  bad = weigh (λ x. (drops_told x).bad) states;
  expired = weigh (λ x. (drops_told x).expired) states;
  noroute = weigh (λ x. (drops_told x).noroute) states;
}

-- Links.

abbrev pub lost_told : Scene NodeState Msg → ℕ → ℕ
lost_told v l = (line_at v.lines l).lost

abbrev pub all_lost : Net → Scene NodeState Msg → Sort → ℕ
all_lost net v sort = weigh (lost_told v) (filter (λ l. same_sort (link_of net l).sort sort) (link_numbers net))

-- Findings.

-- it has a node for each actor and the links of the net, and its sums fit 64 bits
pub record CanTell (net : Net) (v : Scene NodeState Msg) (o : ObserverState) : Type 0 where
  pub nodes : length v.states ≡ length net.actors
  pub links : length v.plan.links ≡ length net.links
  pub collected : HasAllRows net o
  pub bad : (all_drops v.states).bad < 2 ^ 64
  pub expired : (all_drops v.states).expired < 2 ^ 64
  pub noroute : (all_drops v.states).noroute < 2 ^ 64
  pub lost : (sort : Sort) → all_lost net v sort < 2 ^ 64

abbrev pub told : Net → ℕ → Scene NodeState Msg → ObserverState → Findings
told net count v o = record {
  issued = o.issued;
  floor = register_floor o;
  resent = o.resent;
  list = map (finding_by o.issued (accounts_of o)) (range_with_len 1 count);
  sent = numbers sent_told v.states;
  delivered = numbers delivered_told v.states;
  drops = all_drops v.states;
  lost = record { cable = all_lost net v Cable; crossbar = all_lost net v Crossbar; init = all_lost net v Init; notice = all_lost net v Notice };
}
