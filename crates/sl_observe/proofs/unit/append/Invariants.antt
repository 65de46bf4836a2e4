use Rattle.std.proofs.Common.{◌≡◌, ◌+◌, ◌≤◌, ◌++◌, map, take, vec_len, vec_capacity}
use Rattle.sl_observe.proofs.unit.append.Given as goal

abbrev pub invariant-loop-row : goal.invariant-loop-row
invariant-loop-row l = record {
  items : l.rows.items ≡ l.fn.rows.items ++ map (λ r. r.1) (take l.row-index l.more);
  held : vec_len l.rows ≡ vec_len l.fn.rows + l.row-index;
  room : vec_capacity l.fn.rows ≤ vec_capacity l.rows;
}
