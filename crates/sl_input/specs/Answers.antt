-- What the loss of a link answers, put by put.
--     AnswerInOrder    after n puts the next answer is whether the next put is lost
use Rattle.std.specs.Prelude.{◌≡◌, ℕ, ◌+◌, ◌<◌, ◌^◌}
use Rattle.sl_loss.specs.Loss.{loses_next, after_put}
use Rattle.sl_net.specs.Input.{Input}
use Rattle.sl_model.specs.Losses.{loss_after, losses}

pub record AnswerInOrder : Type 0 where
  pub next : (i : Input) (l n : ℕ) → loses_next (loss_after i l n) ≡ losses i l (n + 1)
  pub after : (i : Input) (l n : ℕ) → n + 1 < 2 ^ 64 → after_put (loss_after i l n) ≡ loss_after i l (n + 1)
