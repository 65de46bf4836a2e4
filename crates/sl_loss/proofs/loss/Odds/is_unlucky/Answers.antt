use Rattle.std.proofs.Common.{◌≡◌, ◌+◌, ◌-◌, ℕ, refl, ap, arith}
use Rattle.rand_pcg.specs.Lcg.{Lcg}
use Rattle.sl_loss.proofs.loss.Odds.is_unlucky.Goals as goal

pub returns-then-self-gt0 : goal.returns-then-self-gt0
returns-then-self-gt0 c = λ n holds.
    let back : n + 1 - 1 ≡ n = omega arith in
    rw (back, ap (λ (p : ℕ × Lcg). p.0) (holds.next (omega arith)), c.from.ensures) refl
