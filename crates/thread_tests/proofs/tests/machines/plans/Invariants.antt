use Rattle.std.proofs.Common.{◌≡◌, [], ◌∷◌, length}
use Rattle.std.specs.List.{All}
use Rattle.thread_tests.proofs.tests.machines.plans.Given as goal

abbrev pub invariant-loop : goal.invariant-loop
invariant-loop l = record { long : length l.plans.items ≡ l.counter; alike : All (λ p. p.items ≡ 0 ∷ 1 ∷ []) l.plans.items }
