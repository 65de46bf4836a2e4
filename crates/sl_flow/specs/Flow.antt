-- Trusted text, but for HasAddresses, HaveAddresses.
-- The packets of a host: those of its flows in input order, each flow whole, numbered from 0 in each.
use Rattle.std.specs.Prelude.{ℕ, ◌^◌, ◌<◌, List, map, filter, flat_map, ◌==◌}
use Rattle.std.specs.List.{All}
use Rattle.sl_net.specs.declared.input.Flow.{Flow}
use Rattle.sl_net.specs.declared.input.Packet.{Packet}
use Rattle.sl_parts.specs.Parts.{below}

abbrev pub packet_in : Flow → ℕ → Packet
packet_in f n = record { src = f.from; dst = f.to; seq = n; len = f.bytes; hops = f.hops }

abbrev pub flow_packets : Flow → List Packet
flow_packets f = map (packet_in f) (below f.count)

abbrev pub packets_of : List Flow → ℕ → List Packet
packets_of flows h = flat_map flow_packets (filter (λ f. f.from == h) flows)

-- a packet has 16 bits for each of its hosts
pub record HasAddresses (flow : Flow) : Type 0 where
  pub from : flow.from < 2 ^ 16
  pub to : flow.to < 2 ^ 16

abbrev pub HaveAddresses : List Flow → Type 0
HaveAddresses flows = All HasAddresses flows
