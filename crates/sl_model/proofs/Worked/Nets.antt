-- The nets of the worked rows, and how a row's run goes.
--     net_a    one device with two hosts          net_b    one device with one host
--     net_c    two devices joined by a cable      net_d    three devices in a line
use Rattle.std.specs.Prelude.{ℕ, ◌&&◌, List, [], ◌∷◌, ◌++◌, codes, ◌==◌, unwrap_or, false}
use Rattle.sl_parts.specs.declared.parts.PortRef.{PortRef}
use Rattle.sl_parts.specs.declared.parts.DevicePart.{DevicePart}
use Rattle.sl_parts.specs.declared.parts.CablePart.{CablePart}
use Rattle.sl_parts.specs.declared.parts.HostPart.{HostPart}
use Rattle.sl_net.specs.declared.input.Flow.{Flow}
use Rattle.sl_layout.specs.Net.{Net, net_of}
use Rattle.sl_model.specs.History.{Losses}
use Rattle.sl_model.specs.Setup.{Setup}
use Rattle.sl_model.specs.World.{Entry, start, run, kept}
use Rattle.sl_model.specs.End.{finish}

-- nothing is lost
abbrev pub no_loss : Losses
no_loss l n = false

abbrev pub port : ℕ → ℕ → PortRef
port d p = record { device = d; port = p }

abbrev pub device : List ℕ → ℕ → DevicePart
device name ports = record { name = name; ports = ports }

abbrev pub host : List ℕ → PortRef → HostPart
host name at = record { name = name; at = at }

abbrev pub cable : PortRef → PortRef → CablePart
cable a b = record { a = a; b = b; version = 1 }

abbrev pub net_a : Net
net_a = net_of (record { devices = device (codes "a") 2 ∷ []; cables = []; hosts = host (codes "h0") (port 0 0) ∷ host (codes "h1") (port 0 1) ∷ [] })

abbrev pub net_b : Net
net_b = net_of (record { devices = device (codes "a") 1 ∷ []; cables = []; hosts = host (codes "h0") (port 0 0) ∷ [] })

abbrev pub net_c : Net
net_c = net_of (record {
  devices = device (codes "a") 2 ∷ device (codes "b") 2 ∷ [];
  cables = cable (port 0 1) (port 1 0) ∷ [];
  hosts = host (codes "h0") (port 0 0) ∷ host (codes "h1") (port 1 1) ∷ [];
})

abbrev pub net_d : Net
net_d = net_of (record {
  devices = device (codes "a") 2 ∷ device (codes "b") 2 ∷ device (codes "c") 2 ∷ [];
  cables = cable (port 0 1) (port 1 0) ∷ cable (port 1 1) (port 2 0) ∷ [];
  hosts = host (codes "h0") (port 0 0) ∷ host (codes "h1") (port 2 1) ∷ [];
})

abbrev pub flow : ℕ → ℕ → ℕ → ℕ → ℕ → Flow
flow from to count bytes hops = record { from = from; to = to; count = count; bytes = bytes; hops = hops }

abbrev pub setup : Net → ℕ → ℕ → ℕ → List Flow → Setup
setup net window count retries flows = record { net = net; window = window; count = count; retries = retries; credits = 1; flows = flows; raws = [] }

-- one snapshot of the first net with one flow of packets from the first host to the second
abbrev pub form : ℕ → ℕ → Setup
form count bytes = setup net_a 3 1 0 (flow 0 1 count bytes 8 ∷ [])

-- the n-th put on the link l is lost
abbrev pub drop_one : ℕ → ℕ → Losses
drop_one link number l n = (l == link) && (n == number)

-- the entries of a schedule that aren't idle, then those of finishing
abbrev pub book_of : Setup → Losses → List Entry → List Entry
book_of s lost schedule = kept s lost schedule ++ unwrap_or (finish 30 s lost (run s lost (start s.net) schedule)) []
