use Rattle.std.proofs.Common.{◌≡◌, ◌++◌, length, map}
use Rattle.std.specs.Prelude.{reverse}
use Rattle.sl_value.specs.Nodes.{value_node_state, controls_in}
use Rattle.sl_value.proofs.run.controls.Given as goal

abbrev pub invariant-loop-node : goal.invariant-loop-node
invariant-loop-node l = map (λ c. c.state) l.made.items ++ controls_in (map value_node_state (reverse l.nodes.items)) ≡ controls_in (map value_node_state (reverse l.initial.nodes.items))

abbrev pub decreases-loop-node : goal.decreases-loop-node
decreases-loop-node l = length l.nodes.items
