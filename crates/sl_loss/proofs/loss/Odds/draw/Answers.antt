use Rattle.std.proofs.Common.{◌≡◌, ◌+◌, ℕ, suc, ◌∙◌, ap, arith}
use Rattle.rand_pcg.specs.Lcg.{Lcg}
use Rattle.rand_pcg.specs.Pcg.{pcg32}
use Rattle.sl_loss.proofs.loss.Odds.draw.Goals as goal

pub returns-then-self-gt0-clause-odds : goal.returns-then-self-gt0-clause-odds
returns-then-self-gt0-clause-odds c = λ n holds.
    let is : n + 1 ≡ suc n = omega arith in
    record {
      next = λ some. rw is (c.next_word-self.ensures ∙ ap pcg32 (ap (λ (p : ℕ × Lcg). p.1) (holds.next some)));
      rising = holds.rising;
      same = holds.same;
    }

pub returns-else-self-gt0-clause-odds : goal.returns-else-self-gt0-clause-odds
returns-else-self-gt0-clause-odds c = λ n holds. record { next = λ some. absurd (omega arith); rising = holds.rising; same = holds.same }
