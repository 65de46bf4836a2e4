use Rattle.std.proofs.Common.{◌≡◌, ◌++◌, map, take}
use Rattle.sl_layout.specs.Roster.{link_by}
use Rattle.sl_layout.proofs.links.add_links.Given as goal

abbrev pub invariant-loop-from : goal.invariant-loop-from
invariant-loop-from l = l.links.items ≡ l.fn.links.items ++ map (link_by l.roster l.to) (take l.from-index l.incoming)
