-- The numbers of a net's actors, in a table by actors.
use Rattle.std.specs.Prelude.{◌≡◌, ◌+◌, ◌*◌, ◌<◌, ◌≤◌, ℕ, true, List, length, slice_index}
use Rattle.sl_layout.specs.declared.actor.Side.{Side}
use Rattle.sl_layout.specs.declared.actor.Side.TheVariants.{Ingress, Egress}
use Rattle.sl_layout.specs.declared.actor.ActorId.{ActorId}
use Rattle.sl_layout.specs.declared.actor.ActorId.TheVariants.{Observer, Control, Unit as OfUnit, Host as OfHost}
use Rattle.sl_layout.specs.declared.actor.LinkPart.{LinkPart}
use Rattle.sl_parts.specs.Parts.{Parts, is_used, ports_of}
use Rattle.sl_parts.specs.Valid.{IsValid}
use Rattle.sl_layout.specs.Net.{place_of, actors_of, Incoming}

-- the actor is one of a net of few parts
abbrev pub IsFew : ActorId → Type 0
IsFew Observer = Unit {0}
IsFew (Control d) = d < 64
IsFew (OfUnit u) = (u.device < 64) × (u.port < 8)
IsFew (OfHost h) = h < 128

abbrev pub side_number : Side → ℕ
side_number Ingress = 0
side_number Egress = 1

-- the actor is one of the parts
abbrev pub IsActor : Parts → ActorId → Type 0
IsActor parts Observer = Unit {0}
IsActor parts (Control d) = d < length parts.devices
IsActor parts (OfUnit u) = (u.device < length parts.devices) × (u.port < ports_of parts u.device) × (is_used parts (record { device = u.device; port = u.port }) ≡ true)
IsActor parts (OfHost h) = h < length parts.hosts

-- the place of an actor in a table of 1217: the observer, 64 controls, 1024 units, 128 hosts
abbrev pub seat_of : ActorId → ℕ
seat_of Observer = 0
seat_of (Control d) = 1 + d
seat_of (OfUnit u) = 65 + 16 * u.device + 2 * u.port + side_number u.side
seat_of (OfHost h) = 1089 + h

-- the table has the number of each actor, counted from n
pub record HasNumbers (n : ℕ) (actors : List ActorId) (numbers : List ℕ) : Type 0 where
  pub size : length numbers ≡ 1217
  pub each : (a : ActorId) → IsFew a → slice_index numbers (seat_of a) ≡ n + place_of a actors

-- the actors of the parts, with their numbers
pub record IsRoster (parts : Parts) (actors : List ActorId) (numbers : List ℕ) : Type 0 where
  pub valid : IsValid parts
  pub actors_are : actors ≡ actors_of parts
  pub few : length actors ≤ 1217
  pub numbers_are : HasNumbers 0 actors numbers

-- an incoming link of an actor, by numbers
abbrev pub link_by : Parts → ℕ → Incoming → LinkPart
link_by parts to i = record { from = place_of i.0 (actors_of parts); to = to; sort = i.1 }
