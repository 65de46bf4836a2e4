use Rattle.std.proofs.Common.{◌≡◌, take}
use Rattle.std.specs.Prelude.{flat_map}
use Rattle.sl_layout.specs.Net.{actors_of, links_to}
use Rattle.sl_layout.proofs.links.list_links.Given as goal

abbrev pub invariant-loop-i : goal.invariant-loop-i
invariant-loop-i l = l.links.items ≡ flat_map (links_to l.roster (actors_of l.roster)) (take l.i l.actors)
