use Rattle.std.proofs.Common.{◌≡◌, drop}
use Rattle.toml.specs.View.{items_view}
use Rattle.sl_read.specs.Rows.{all_tables}
use Rattle.sl_read.proofs.rows.all_tables.Given as goal

abbrev pub invariant-loop-index : goal.invariant-loop-index
invariant-loop-index l =
    all_tables l.at l.key l.index (items_view (drop l.index l.values)) ≡ all_tables l.at l.key 0 (items_view l.values)
