-- Trusted text, but for IsSampleNumber, IsSampleFlow, IsSample.
-- The sample inputs, one for each number from 1 to 64. Each is a leaf-spine net with two hosts at each leaf and a flow from each host to the next.
-- Where the number is odd, messages are lost and the window is full.
use Rattle.std.specs.Prelude.{◌≡◌, ℕ, ◌+◌, ◌*◌, ◌/◌, ◌%◌, ◌<◌, ◌≤◌, ◌==◌, ◌++◌, if◌then◌else◌, List, [], ◌∷◌, map, length, None, codes, decimal}
use Rattle.std.specs.List.{All, sum_by}
use Rattle.sl_parts.specs.declared.parts.PortRef.{PortRef}
use Rattle.sl_parts.specs.declared.parts.CablePart.{CablePart}
use Rattle.sl_parts.specs.declared.parts.DevicePart.{DevicePart}
use Rattle.sl_parts.specs.declared.parts.HostPart.{HostPart}
use Rattle.sl_net.specs.declared.input.Snapshot.{Snapshot}
use Rattle.sl_net.specs.declared.input.Flow.{Flow}
use Rattle.sl_parts.specs.Parts.{Parts, below}
use Rattle.sl_layout.specs.Net.{net_of}
use Rattle.sl_parts.specs.Fault.{fault_of}
use Rattle.sl_net.specs.Input.{Input, LossSpec}

pub record IsSampleNumber (n : ℕ) : Type 0 where
  pub some : 1 ≤ n
  pub few : n ≤ 64

-- The net, by the number of its leaves.

abbrev pub leaf_count : ℕ → ℕ
leaf_count n = 2 + n % 7

-- a spine has a port for each leaf
abbrev pub spine : ℕ → ℕ → DevicePart
spine leaves i = record { name = codes "s" ++ decimal i; ports = leaves }

-- a leaf has the ports 0 and 1 for hosts, 2 and 3 for the spines
abbrev pub leaf : ℕ → DevicePart
leaf i = record { name = codes "l" ++ decimal i; ports = 4 }

abbrev pub devices : ℕ → List DevicePart
devices leaves = spine leaves 0 ∷ spine leaves 1 ∷ map leaf (below leaves)

abbrev pub spine_port : ℕ → ℕ → PortRef
spine_port i p = record { device = i; port = p }

abbrev pub leaf_port : ℕ → ℕ → PortRef
leaf_port i p = record { device = 2 + i; port = p }

-- two cables a leaf, the first to the first spine and the second to the second
abbrev pub cable : ℕ → CablePart
cable c = record { a = leaf_port (c / 2) (2 + c % 2); b = spine_port (c % 2) (c / 2); version = 1 }

-- two hosts a leaf
abbrev pub host : ℕ → HostPart
host h = record { name = codes "h" ++ decimal h; at = leaf_port (h / 2) (h % 2) }

abbrev pub leaf_spine : ℕ → Parts
leaf_spine leaves = record { devices = devices leaves; cables = map cable (below (2 * leaves)); hosts = map host (below (2 * leaves)) }

-- The rest, by the sample's number.

abbrev pub host_count : ℕ → ℕ
host_count n = 2 * leaf_count n

abbrev pub flow : ℕ → ℕ → Flow
flow n h = record { from = h; to = (h + 1) % host_count n; count = 5 * n; bytes = 100; hops = 4 }

-- one for even numbers, another for odd
abbrev pub by_parity : ℕ → ℕ → ℕ → ℕ
by_parity n even odd = if n % 2 == 0 then even else odd

abbrev pub snapshot : ℕ → Snapshot
snapshot n = record { width = 2; window = by_parity n 1 3; ring = by_parity n 1 3; count = 5; retries = 3; credits = 1; version = 1 }

abbrev pub loss : ℕ → LossSpec
loss n = record { seed = n; cable = by_parity n 0 5; crossbar = by_parity n 0 1; init = by_parity n 0 20; notice = by_parity n 0 20; drops = [] }

abbrev pub sample_parts : ℕ → Input
sample_parts n = record {
  net = net_of (leaf_spine (leaf_count n));
  snapshot = snapshot n;
  loss = loss n;
  flows = map (flow n) (below (host_count n));
  raws = [];
  script = [];
}

-- What holds of each sample input: its net has no fault, its flows go between hosts of the net, and its numbers are within the ranges of an input.

pub record IsSampleFlow (parts : Parts) (f : Flow) : Type 0 where
  pub from : f.from < length parts.hosts
  pub to : f.to < length parts.hosts
  pub count : f.count ≤ 320

pub record IsSample (input : Input) : Type 0 where
  pub net : input.net ≡ net_of input.net.parts
  pub right : fault_of input.net.parts ≡ None
  pub hosts : length input.net.parts.hosts ≤ 16
  pub cables : All (λ c. c.version ≡ 1) input.net.parts.cables
  pub bits : input.snapshot.width ≡ 2
  pub some_window : 1 ≤ input.snapshot.window
  pub few_window : input.snapshot.window < 4
  pub ring : input.snapshot.ring ≡ input.snapshot.window
  pub count : input.snapshot.count ≡ 5
  pub retries : input.snapshot.retries ≡ 3
  pub credits : input.snapshot.credits ≡ 1
  pub version : input.snapshot.version ≡ 1
  pub flows : All (IsSampleFlow input.net.parts) input.flows
  pub few_packets : sum_by (λ f. f.count) input.flows ≤ 5120
  pub raws : input.raws ≡ []
  pub script : input.script ≡ []
  pub drops : input.loss.drops ≡ []
