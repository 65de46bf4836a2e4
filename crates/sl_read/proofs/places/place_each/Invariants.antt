use Rattle.std.proofs.Common.{◌≡◌, drop}
use Rattle.sl_read.specs.Places.{each}
use Rattle.sl_read.proofs.RowLemmas.{with_front}
use Rattle.sl_read.proofs.places.place_each.Given as goal

abbrev pub invariant-loop-index : goal.invariant-loop-index
invariant-loop-index g l = with_front l.found.items (each (g.R.Placed.part_of l.named) l.index (drop l.index l.rows)) ≡ each (g.R.Placed.part_of l.named) 0 l.rows
