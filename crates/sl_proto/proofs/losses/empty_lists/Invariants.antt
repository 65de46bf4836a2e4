use Rattle.std.proofs.Common.{◌≡◌, ℕ, [], map}
use Rattle.sl_parts.specs.Parts.{below}
use Rattle.sl_proto.proofs.losses.empty_lists.Given as goal

abbrev pub invariant-loop-i : goal.invariant-loop-i
invariant-loop-i l = l.lists.items ≡ map (λ (a : ℕ). []) (below l._i)
