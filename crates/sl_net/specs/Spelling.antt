-- Trusted text, but for skip.
-- The spelling of actors and of their choices.
use Rattle.std.specs.Prelude.{◌<◌, ◌+◌, ◌-◌, ℕ, codes, decimal, ◌++◌, ◌&&◌, ◌==◌, nat_lt, if◌then◌else◌, List, [], ◌∷◌, length, map, slice_index, slice_index_or, Option, Some, None}
use Rattle.sl_layout.specs.declared.actor.Side.{Side}
use Rattle.sl_layout.specs.declared.actor.Side.TheVariants.{Ingress, Egress}
use Rattle.sl_layout.specs.declared.actor.ActorId.{ActorId}
use Rattle.sl_layout.specs.declared.actor.ActorId.TheVariants.{Observer, Control, Unit as OfUnit, Host as OfHost}
use Rattle.sl_layout.specs.declared.actor.Sort.{Sort}
use Rattle.sl_layout.specs.declared.actor.Sort.TheVariants.{FromHost, ToHost, Cable, Crossbar, Init, Poll, Notice, Dump, Begin, Done}
use Rattle.sl_parts.specs.Parts.{Parts}
use Rattle.sl_layout.specs.Net.{Net, actor_of, link_of, link_at, action_choice}
use Rattle.sl_layout.specs.Wiring.{actions_of}

abbrev pub device_name : Parts → ℕ → List ℕ
device_name parts d = slice_index_or (map (λ part. part.name) parts.devices) d []

abbrev pub host_name : Parts → ℕ → List ℕ
host_name parts h = slice_index_or (map (λ part. part.name) parts.hosts) h []

abbrev pub side_text : Side → List ℕ
side_text Ingress = codes "in"
side_text Egress = codes "out"

abbrev pub actor_text : Parts → ActorId → List ℕ
actor_text parts Observer = codes "observer"
actor_text parts (Control d) = codes "control " ++ device_name parts d
actor_text parts (OfUnit u) = side_text u.side ++ (codes " " ++ (device_name parts u.device ++ (codes "." ++ decimal u.port)))
actor_text parts (OfHost h) = codes "host " ++ host_name parts h

-- a sender among those of its kind that send to one actor: a device's name, or a side and a port
abbrev pub sender_text : Parts → ActorId → List ℕ
sender_text parts (Control d) = device_name parts d
sender_text parts (OfUnit u) = side_text u.side ++ (codes "." ++ decimal u.port)
sender_text parts _ = []

abbrev pub port_of : ActorId → ℕ
port_of (OfUnit u) = u.port
port_of _ = 0

abbrev pub link_word : Sort → List ℕ
link_word FromHost = codes "host"
link_word ToHost = codes "net"
link_word Cable = codes "cable"
link_word Crossbar = codes "x"
link_word Init = codes "init"
link_word Poll = codes "poll"
link_word Notice = codes "notice:"
link_word Dump = codes "dump:"
link_word Begin = codes "begin"
link_word Done = codes "done:"

-- which one it is, where there are several of a sort
abbrev pub link_rest : Parts → ActorId → Sort → List ℕ
link_rest parts a Crossbar = decimal (port_of a)
link_rest parts a Notice = sender_text parts a
link_rest parts a Dump = sender_text parts a
link_rest parts a Done = sender_text parts a
link_rest parts a _ = []

-- a link among those of its receiver
abbrev pub link_text : Parts → ActorId → Sort → List ℕ
link_text parts a s = link_word s ++ link_rest parts a s

abbrev pub action_text : ActorId → ℕ → List ℕ
action_text Observer n = if n == 0 then codes "issue" else codes "resend"
action_text (Control d) n = codes "sweep"
action_text (OfUnit u) n = []
action_text (OfHost h) n = codes "inject"

-- a choice among those of its actor
abbrev pub choice_word : Net → ℕ → ℕ → List ℕ
choice_word net a c = if nat_lt c (action_choice net a) then link_text net.parts (actor_of net (link_of net (link_at net a c)).from) (link_of net (link_at net a c)).sort
    else action_text (actor_of net a) (c - action_choice net a)

-- the spelling of a choice
abbrev pub choice_text : Net → ℕ → ℕ → List ℕ
choice_text net a c = actor_text net.parts (actor_of net a) ++ (codes " " ++ choice_word net a c)

abbrev pub choice_count : Net → ℕ → ℕ
choice_count net a = action_choice net a + actions_of (actor_of net a)

-- the net has this actor, and it has this choice
pub record HasChoice (net : Net) (a c : ℕ) : Type 0 where
  pub actor : a < length net.actors
  pub choice : c < choice_count net a

-- where a text goes on past a piece that stands at a place, if it stands there
abbrev pub skip : List ℕ → List ℕ → ℕ → Option ℕ
skip text [] at = Some at
skip text (p ∷ ps) at = if nat_lt at (length text) && (slice_index text at == p) then skip text ps (at + 1) else None
