use Rattle.std.proofs.Common.{◌≡◌, map}
use Rattle.sl_parts.specs.Parts.{below}
use Rattle.sl_layout.specs.Groups.{grouped}
use Rattle.sl_layout.proofs.Grouping.{before_in_group}
use Rattle.sl_layout.proofs.groups.group.Given as goal

abbrev pub invariant-loop-i : goal.invariant-loop-i
invariant-loop-i l = record {
  lists : l.lists.items ≡ map (grouped l.keys l.i) (below l.count);
  places : l.places.items ≡ map (before_in_group l.keys) (below l.i);
}
