-- Trusted text for nodes, but for port_to, IsSmall, IsUsable, AreEarly.
-- What a unit knows of its links. It never changes.
--     outs way exits     the numbers of the outgoing links on which a message goes, ascending
use Rattle.std.specs.Prelude.{◌≡◌, ℕ, ◌<◌, ◌^◌, Bool, true, false, ◌&&◌, List, length, filter, Option, slice_index_or, slice_get, option_and_then}
use Rattle.std.specs.List.{All as AllEach}
use Rattle.sl_layout.specs.declared.actor.Sort.TheVariants.{Crossbar, FromHost}
use Rattle.sl_layout.specs.declared.actor.ActorId.TheVariants.{Observer}
use Rattle.sl_parts.specs.Parts.{below}
use Rattle.sl_layout.specs.Net.{same_sort, same_actor, egress}
use Rattle.sl_unit.specs.declared.wires.Entrance.{Entrance}
use Rattle.sl_unit.specs.declared.wires.Entrance.TheVariants.{Cable, Crossbar as FromCrossbar, Poll, Other}
use Rattle.sl_unit.specs.declared.wires.Exit.{Exit}
use Rattle.sl_unit.specs.declared.wires.Way.{Way}
use Rattle.sl_unit.specs.declared.wires.Way.TheVariants.{All, Toward}

-- its device and port; what comes by each choice; each outgoing link by its number; the next port to each host; the bits of wrapped ids;
-- the version of the frames that it sends to other units; and how many own actions it has
pub record Wires : Type 0 where
  pub device : ℕ
  pub port : ℕ
  pub entrances : List Entrance
  pub exits : List Exit
  pub ports : List (Option ℕ)
  pub bits : ℕ
  pub version : ℕ
  pub actions : ℕ

abbrev pub entrance_at : Wires → ℕ → Entrance
entrance_at w c = slice_index_or w.entrances c Other

abbrev pub no_exit : Exit
no_exit = record { sort = FromHost; to = Observer }

-- a way is all links of a sort, or the crossbar link to the egress unit of a port
abbrev pub leads : Way → Exit → Bool
leads (All s) e = same_sort e.sort s
leads (Toward device port) e = same_sort e.sort Crossbar && same_actor e.to (egress device port)

abbrev pub is_out : Way → List Exit → ℕ → Bool
is_out way exits o = leads way (slice_index_or exits o no_exit)

abbrev pub outs : Way → List Exit → List ℕ
outs way exits = filter (is_out way exits) (below (length exits))

-- the next port to a host, None where there is no such host or no way
abbrev pub port_to : Wires → ℕ → Option ℕ
port_to w host = option_and_then (λ port. port) (slice_get w.ports host)

-- the channel has a register
abbrev pub IsSmall : Entrance → Type 0
IsSmall (Cable i) = i < 8
IsSmall (FromCrossbar i own) = i < 8
IsSmall _ = Unit {0}

-- the choices' channels have registers, and the outgoing links' numbers fit their type
pub record IsUsable (w : Wires) : Type 0 where
  pub small : AllEach IsSmall w.entrances
  pub few : length w.exits < 2 ^ 32

-- what comes by the first ten choices, apart
pub record AreEarly (entrances early : List Entrance) : Type 0 where
  pub many : length early ≡ 10
  pub same : (choice : ℕ) → choice < 10 → slice_index_or early choice Other ≡ slice_index_or entrances choice Other

abbrev pub is_poll : Entrance → Bool
is_poll Poll = true
is_poll _ = false
