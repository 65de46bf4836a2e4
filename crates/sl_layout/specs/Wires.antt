-- Trusted text for nodes, but for HasEnds, AreWires.
-- The links of a net, with tables to look them up.
use Rattle.std.specs.Prelude.{◌≡◌, ◌≤◌, ◌<◌, ℕ, List, length, map}
use Rattle.std.specs.List.{All}
use Rattle.sl_layout.specs.declared.actor.LinkPart.{LinkPart}
use Rattle.sl_parts.specs.Parts.{Parts, below}
use Rattle.sl_layout.specs.Groups.{Sorted}
use Rattle.sl_layout.specs.Net.{Net, net_of, link_of, link_numbers, links_into, links_from, place_in, choice_of}

-- a link's place among its sender's links
abbrev pub out_of : Net → ℕ → ℕ
out_of net l = place_in 0 l (links_from net (link_of net l).from)

-- both ends of the link are actors' numbers
pub record HasEnds (net : Net) (k : LinkPart) : Type 0 where
  pub from : k.from < length net.actors
  pub to : k.to < length net.actors

-- the links of the parts' net, sorted by receivers and by senders
pub record AreWires (parts : Parts) (links : List LinkPart) (into from : Sorted) : Type 0 where
  pub links_are : links ≡ (net_of parts).links
  pub few : length links ≤ 77888
  pub few_actors : length (net_of parts).actors ≤ 1217
  pub ends : All (HasEnds (net_of parts)) links
  pub into_are : into.lists ≡ map (links_into (net_of parts)) (below (length (net_of parts).actors))
  pub choices_are : into.places ≡ map (choice_of (net_of parts)) (link_numbers (net_of parts))
  pub from_are : from.lists ≡ map (links_from (net_of parts)) (below (length (net_of parts).actors))
  pub outs_are : from.places ≡ map (out_of (net_of parts)) (link_numbers (net_of parts))
