use Rattle.std.proofs.Common.{◌≡◌, drop}
use Rattle.toml.specs.View.{items_view}
use Rattle.sl_read.specs.Tables.{texts_of}
use Rattle.sl_read.proofs.RowLemmas.{with_front}
use Rattle.sl_read.proofs.script.texts_of.Given as goal

abbrev pub invariant-loop-index : goal.invariant-loop-index
invariant-loop-index l = with_front l.found.items (texts_of l.index (items_view (drop l.index l.values))) ≡ texts_of 0 (items_view l.values)
