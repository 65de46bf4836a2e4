use Rattle.std.proofs.Common.{◌≡◌, drop}
use Rattle.toml.specs.View.{items_view}
use Rattle.sl_read.specs.Rows.{rows}
use Rattle.sl_read.proofs.RowLemmas.{with_front}
use Rattle.sl_read.proofs.rows.rows.Given as goal

abbrev pub invariant-loop-index : goal.invariant-loop-index
invariant-loop-index g l =
    with_front l.found.items (rows l.at l.key g.R.Row.row_of l.index (items_view (drop l.index l.values)))
    ≡ rows l.at l.key g.R.Row.row_of 0 (items_view l.values)
