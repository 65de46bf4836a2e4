use Rattle.std.proofs.Common.{◌≡◌, ◌+◌, ◌<◌, ◌≤◌, length, drop, set}
use Rattle.sl_observe.proofs.Trees.{RightBut}
use Rattle.sl_observe.proofs.floors.write.Given as goal

abbrev pub invariant-loop-node : goal.invariant-loop-node
invariant-loop-node l = record {
  low : 1 ≤ l.node;
  high : l.node < l.count + l.count;
  size : length l.tree.items ≡ l.count + l.count;
  numbers : drop l.count l.tree.items ≡ set (drop l.count l.fn.tree.items) l.place l.number;
  nodes : RightBut l.count l.node l.tree.items;
}

abbrev pub decreases-loop-node : goal.decreases-loop-node
decreases-loop-node l = l.node
