-- The first net: one device with two ports, and a host at each.
use Rattle.std.specs.Prelude.{List, ℕ, ◌∷◌, ◌≡◌, []}
use Rattle.sl_layout.specs.Net.{Net, net_of}
use Rattle.sl_parts.specs.Parts.{Parts}

abbrev pub first_parts : List ℕ → List ℕ → List ℕ → Parts
first_parts a h0 h1 = record {
  devices = record { name = a; ports = 2 } ∷ [];
  cables = [];
  hosts = record { name = h0; at = record { device = 0; port = 0 } } ∷ record { name = h1; at = record { device = 0; port = 1 } } ∷ [];
}

-- the net of these parts, whatever their names
pub record IsFirstNet (net : Net) : Type 0 where
  pub device : List ℕ
  pub host_0 : List ℕ
  pub host_1 : List ℕ
  pub made : net ≡ net_of (first_parts device host_0 host_1)
