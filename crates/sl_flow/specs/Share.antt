-- The packets of a host as they are sent one by one.
use Rattle.std.specs.Prelude.{◌≡◌, ℕ, ◌+◌, ◌<◌, ◌≤◌, List, flat_map, length, take, slice_index_or}
use Rattle.std.specs.List.{All}
use Rattle.sl_net.specs.declared.input.Flow.{Flow}
use Rattle.sl_net.specs.declared.input.Packet.{Packet}
use Rattle.sl_flow.specs.Flow.{flow_packets, HasAddresses}

-- all packets of a host, and how many of them it has sent
pub record ShareView : Type 0 where
  pub packets : List Packet
  pub sent : ℕ

abbrev pub all_packets : List Flow → List Packet
all_packets flows = flat_map flow_packets flows

-- how many packets stand before the one with this number in the flow at this place
abbrev pub sent_before : List Flow → ℕ → ℕ → ℕ
sent_before flows flow number = length (all_packets (take flow flows)) + number

-- a packet has this number in the flow at this place, or none is left
pub record IsAt (flows : List Flow) (flow number : ℕ) : Type 0 where
  pub within : (none : Flow) → flow < length flows → number < (slice_index_or flows flow none).count
  pub past : length flows ≤ flow → number ≡ 0

-- each flow has a packet, and the packets are counted
pub record IsShare (flows : List Flow) (count flow number : ℕ) : Type 0 where
  pub addresses : All HasAddresses flows
  pub some : All (λ f. 0 < f.count) flows
  pub counted : count ≡ length (all_packets flows)
  pub at : IsAt flows flow number
