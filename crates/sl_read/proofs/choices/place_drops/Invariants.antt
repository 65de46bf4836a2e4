use Rattle.std.proofs.Common.{◌≡◌, drop}
use Rattle.sl_read.specs.Places.{each}
use Rattle.sl_read.specs.Choices.{drop_part}
use Rattle.sl_read.proofs.RowLemmas.{with_front}
use Rattle.sl_read.proofs.choices.place_drops.Given as goal

abbrev pub invariant-loop-index : goal.invariant-loop-index
invariant-loop-index l = with_front l.found.items (each (drop_part l.net) l.index (drop l.index l.drops)) ≡ each (drop_part l.net) 0 l.drops
