-- The potential of a world: how many turns it may still take by itself, sweeps aside.
--     price net l m            how many turns the message m on the link l may cause, its take among them
--     credit s a x h           how many turns the actor x may still start, where its history is h
--     potential s lost w       both, of all messages on their way and of all actors
--     allowed net e            by how much an entry may raise it: only a sweep may
use Rattle.std.specs.Prelude.{◌*◌, ◌+◌, ◌++◌, ◌-◌, ◌==◌, List, suc, ℕ, Bool, drop, false, length, true, if◌then◌else◌}
use Rattle.sl_layout.specs.Net.{Net, action_choice, actor_of, choices_of, data_channels, link_of, links_out}
use Rattle.sl_parts.specs.Parts.{below}
use Rattle.sl_layout.specs.Serving.{ServedUnit, served}
use Rattle.sl_layout.specs.declared.actor.ActorId.{ActorId}
use Rattle.sl_layout.specs.declared.actor.ActorId.TheVariants.{Control, Observer, Host as OfHost, Unit as OfUnit}
use Rattle.sl_layout.specs.declared.actor.Side.{Side}
use Rattle.sl_layout.specs.declared.actor.Side.TheVariants.{Egress, Ingress}
use Rattle.sl_layout.specs.declared.actor.Sort.{Sort}
use Rattle.sl_layout.specs.declared.actor.Sort.TheVariants.{Begin, Cable, Crossbar, FromHost, Init}
use Rattle.sl_layout.specs.declared.actor.UnitId.{UnitId}
use Rattle.sl_model.specs.History.{History, Losses, World, history, last, taken}
use Rattle.sl_model.specs.Knowledge.{is_again, issued, resent}
use Rattle.sl_model.specs.Puts.{is_own_port}
use Rattle.sl_model.specs.Setup.{Setup, frames_of}
use Rattle.sl_model.specs.Words.{weigh}
use Rattle.sl_model.specs.World.{Entry}
use Rattle.sl_model.specs.declared.message.Message.TheVariants.{Begin as BeginMsg, Data, Done as DoneMsg, Dump as DumpMsg, Host as HostMsg, Init as InitMsg, Notice as NoticeMsg, Poll as PollMsg, Probe as ProbeMsg}
use Rattle.sl_model.specs.Fare.{frame_fare, packet_fare}
use Rattle.sl_model.specs.Flight.{Weight, flight}

abbrev pub is_cable : Sort → Bool
is_cable Cable = true
is_cable _ = false

abbrev pub own_side : Net → ℕ → UnitId → Side → Bool
own_side net l i Ingress = false
own_side net l i Egress = is_own_port net i.device i.port l

abbrev pub own_at : Net → ℕ → ActorId → Bool
own_at net l (OfUnit i) = own_side net l i i.side
own_at net l _ = false

-- a probe from the link goes on by a cable
abbrev pub goes_on : Net → ℕ → Bool
goes_on net l = own_at net l (actor_of net (link_of net l).to)

abbrev pub probe_price : Net → ℕ → ℕ
probe_price net l = if is_cable (link_of net l).sort then 1 else suc (if goes_on net l then length (links_out net (link_of net l).to Cable) else 0)

abbrev pub init_price : Net → ℕ → ℕ
init_price net l = suc (weigh (probe_price net) (links_out net (link_of net l).to Crossbar))

abbrev pub begin_price : Net → ℕ → ℕ
begin_price net l = suc (weigh (init_price net) (links_out net (link_of net l).to Init))

-- a poll is taken, answered by a dump and then a Done; a notice is taken, and then put as a poll
abbrev pub price : Net → Weight
price net l (HostMsg b) = frame_fare net l b
price net l (Data k p) = packet_fare net l p
price net l (ProbeMsg k) = probe_price net l
price net l (InitMsg k) = init_price net l
price net l (BeginMsg k) = begin_price net l
price net l NoticeMsg = 4
price net l PollMsg = 3
price net l (DumpMsg n) = 2
price net l (DoneMsg u n) = 1

-- a number issued, or issued again
abbrev pub round_price : Net → ℕ
round_price net = suc (weigh (begin_price net) (links_out net 0 Begin))

-- the stamped channels of a unit, as choices
abbrev pub channels : Net → ℕ → List ℕ
channels net u = data_channels net u ++ choices_of net u Init

-- a poll that a control plane owes
abbrev pub again_credit : Net → ℕ → History → ServedUnit → ℕ
again_credit net a h v = if is_again (action_choice net a) v h then 3 else 0

-- a frame: its inject, and what it costs on the link of its host
abbrev pub frame_price : Net → ℕ → List ℕ → ℕ
frame_price net a b = suc (weigh (λ l. frame_fare net l b) (links_out net a FromHost))

-- a unit: 4 for a notice for each number by which a channel may still rise
abbrev pub credit : Setup → ℕ → ActorId → History → ℕ
credit s a Observer h = ((s.count - issued s.net h) + (s.retries - resent s.net h)) * round_price s.net
credit s a (Control d) h = weigh (again_credit s.net a h) (served s.net a)
credit s a (OfUnit i) h = weigh (λ c. 4 * (s.count - last c h)) (channels s.net a)
credit s a (OfHost x) h = weigh (frame_price s.net a) (drop (taken (action_choice s.net a) h) (frames_of s x))

abbrev pub credits : Setup → World → ℕ
credits s w = weigh (λ a. credit s a (actor_of s.net a) (history w a)) (below (length s.net.actors))

abbrev pub potential : Setup → Losses → World → ℕ
potential s lost w = flight (price s.net) s.net lost w + credits s w

-- a sweep, and a poll for each unit
abbrev pub allowance : Net → ℕ → ActorId → ℕ → ℕ
allowance net a (Control d) c = if c == action_choice net a then suc (3 * length (served net a)) else 0
allowance net a _ c = 0

abbrev pub allowed : Net → Entry → ℕ
allowed net e = allowance net e.0 (actor_of net e.0) e.1
