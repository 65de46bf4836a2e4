use Rattle.std.proofs.Common.{◌+◌, ◌==◌, ◌∙◌, ℕ, List, ap}
use Rattle.std.specs.List.{list_any}
use Rattle.sl_loss.proofs.loss.Odds.is_next_lost.Goals as goal

pub returns-else-is_unlucky : goal.returns-else-is_unlucky
returns-else-is_unlucky c =
    rw (← (c.is_unlucky.ensures c.args.answered c.requires), c.if-is_unlucky.false)
    (c.lists_next.ensures ∙ ap (λ (xs : List ℕ). list_any (λ k. k == c.args.answered + 1) xs) c.as_slice.ensures.value ∙ c.requires.same (c.args.answered + 1))
