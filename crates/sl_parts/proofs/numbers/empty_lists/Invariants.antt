use Rattle.std.proofs.Common.{◌≡◌, ℕ, [], map}
use Rattle.sl_parts.specs.Parts.{below}
use Rattle.sl_parts.proofs.numbers.empty_lists.Given as goal

abbrev pub invariant-loop-i : goal.invariant-loop-i
invariant-loop-i g l = l.lists.items ≡ map (λ (i : ℕ). []) (below l._i)
