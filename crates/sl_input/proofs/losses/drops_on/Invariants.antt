use Rattle.std.proofs.Common.{◌≡◌, take}
use Rattle.std.specs.Prelude.{map, filter, ◌==◌}
use Rattle.sl_input.proofs.losses.drops_on.Given as goal

abbrev pub invariant-loop-drop : goal.invariant-loop-drop
invariant-loop-drop l = l.numbers.items ≡ map (λ d. d.n) (filter (λ d. d.link == l.link) (take l.drop-index l.loss.drops))
