-- Parts that are a net's, with tables to look things up.
use Rattle.std.specs.Prelude.{◌≡◌, ◌≤◌, ℕ, List, length, map, None}
use Rattle.sl_parts.specs.Parts.{Parts, below, used_ports}
use Rattle.sl_parts.specs.Fault.{fault_of}
use Rattle.sl_parts.specs.Valid.{IsValid}
use Rattle.sl_parts.specs.Ports.{PortLists, ShowsPorts}

-- nothing is wrong with the parts, and the tables show them: what each port leads to, and the used ports of each device
pub record IsLaidOut (parts : Parts) (table : PortLists) (used : List (List ℕ)) : Type 0 where
  pub right : fault_of parts ≡ None
  pub valid : IsValid parts
  pub few_hosts : length parts.hosts ≤ 128
  pub shown : ShowsPorts parts table
  pub used_are : used ≡ map (used_ports parts) (below (length parts.devices))
