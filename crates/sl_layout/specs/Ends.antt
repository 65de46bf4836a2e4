-- The links of an actor at one of their ends.
use Rattle.std.specs.Prelude.{ℕ, List, filter, ◌==◌}
use Rattle.sl_layout.specs.declared.actor.LinkPart.{LinkPart}
use Rattle.sl_layout.specs.declared.wires.End.{End}
use Rattle.sl_layout.specs.declared.wires.End.TheVariants.{Receiver, Sender}
use Rattle.sl_layout.specs.Net.{Net, link_of, link_numbers, place_in}

abbrev pub actor_at : End → LinkPart → ℕ
actor_at Receiver link = link.to
actor_at Sender link = link.from

abbrev pub links_at : Net → End → ℕ → List ℕ
links_at net end a = filter (λ l. actor_at end (link_of net l) == a) (link_numbers net)

abbrev pub place_at : Net → End → ℕ → ℕ
place_at net end l = place_in 0 l (links_at net end (actor_at end (link_of net l)))
