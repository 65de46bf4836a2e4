-- Trusted text, in part.
-- How a net's actors are joined, and the kinds of its links for losses.
use Rattle.std.specs.Prelude.{ℕ, Bool, true, false, List, map, length}
use Rattle.sl_machine.specs.declared.wiring.Link.{Link}
use Rattle.sl_machine.specs.Plan.{Plan}
use Rattle.sl_layout.specs.declared.actor.ActorId.{ActorId}
use Rattle.sl_layout.specs.declared.actor.ActorId.TheVariants.{Observer, Control, Unit as OfUnit, Host as OfHost}
use Rattle.sl_layout.specs.declared.actor.Sort.{Sort}
use Rattle.sl_layout.specs.declared.actor.Sort.TheVariants.{Cable, Crossbar, Init, Notice}
use Rattle.sl_layout.specs.declared.actor.LinkKind.{LinkKind}
use Rattle.sl_layout.specs.declared.actor.LinkKind.TheVariants.{Cable as CableKind, Crossbar as CrossbarKind, Init as InitKind, Notice as NoticeKind, Reliable}
use Rattle.sl_parts.specs.Parts.{below}
use Rattle.sl_layout.specs.Net.{Net, link_of, link_numbers, links_into, links_from, link_at, place_in, choice_of, unit_place, data_channels}

-- the observer issues and resends, a control plane sweeps, a host injects
abbrev pub actions_of : ActorId → ℕ
actions_of Observer = 2
actions_of (Control d) = 1
actions_of (OfUnit u) = 0
actions_of (OfHost h) = 1

abbrev pub wired_link : Net → ℕ → Link
wired_link net l = record { from = (link_of net l).from; out = place_in 0 l (links_from net (link_of net l).from); to = (link_of net l).to; choice = choice_of net l }

abbrev pub wired_links : Net → List Link
wired_links net = map (wired_link net) (link_numbers net)

abbrev pub in_counts : Net → List ℕ
in_counts net = map (λ a. length (links_into net a)) (below (length net.actors))

abbrev pub out_counts : Net → List ℕ
out_counts net = map (λ a. length (links_from net a)) (below (length net.actors))

abbrev pub action_counts : Net → List ℕ
action_counts net = map actions_of net.actors

-- how the net's actors are joined
abbrev pub plan_of : Net → Plan
plan_of net = record { links = wired_links net; ins = in_counts net; outs = out_counts net; actions = action_counts net }

abbrev pub kind_of : Sort → LinkKind
kind_of Cable = CableKind
kind_of Crossbar = CrossbarKind
kind_of Init = InitKind
kind_of Notice = NoticeKind
kind_of _ = Reliable

-- messages on links of the kind may be lost
abbrev pub is_lossy : LinkKind → Bool
is_lossy Reliable = false
is_lossy _ = true

-- the sender of a unit's channel, as a place among the units
abbrev pub sender_by : Net → ℕ → ℕ → ℕ
sender_by net u c = unit_place net (link_of net (link_at net u c)).from

-- the senders of a unit's data channels in order, as places among the units; the unit is an actor's number
abbrev pub upstream_of : Net → ℕ → List ℕ
upstream_of net u = map (sender_by net u) (data_channels net u)
