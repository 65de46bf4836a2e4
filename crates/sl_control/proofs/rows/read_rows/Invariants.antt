use Rattle.std.proofs.Common.{◌≡◌, ◌≤◌, ◌<◌, ◌+◌, ◌-◌, ◌++◌, length, map}
use Rattle.std.specs.List.{list_all}
use Rattle.std.specs.Vec.{vec_len, vec_capacity}
use Rattle.sl_control.specs.Rows.{span, is_readable, row}
use Rattle.sl_control.proofs.rows.read_rows.Given as goal

abbrev pub invariant-loop-k : goal.invariant-loop-k
invariant-loop-k l = record {
  readable : list_all (is_readable l.view l.id) (span l.k l.to) ≡ list_all (is_readable l.view l.id) (span l.from l.to);
  rows : l.rows.items ++ map (row l.view l.id) (span l.k l.to) ≡ map (row l.view l.id) (span l.from l.to);
  count : vec_len l.rows ≡ l.k - l.from;
  room : length l.view.slots ≤ vec_capacity l.rows;
  near : l.from < l.k → l.id < l.from + 1 + length l.view.slots;
}
