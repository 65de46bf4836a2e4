use Rattle.std.proofs.Common.{Some, None, ◌≡◌, ℕ, ◌+◌, ◌<◌, ◌^◌, refl, ap, arith}
use Rattle.std.specs.Prelude.{Bool, true, false, if◌then◌else◌}
use Rattle.sl_machine.specs.Counting.{one_more}
use Rattle.sl_loss.specs.Loss.{loses_next, after_put}
use Rattle.sl_layout.specs.Wiring.{is_lossy}
use Rattle.sl_net.specs.Input.{Input}
use Rattle.sl_model.specs.Losses.{kind_at, asked_loss, loss_after, loses, losses}
use Rattle.sl_input.proofs.laws.losses_answer_in_order.Goals as goal

next_lost : (i : Input) (l n : ℕ) → loses_next (loss_after i l n) ≡ losses i l (n + 1)
next_lost i l n = by_bool (is_lossy (kind_at i.net l))
  where
    by_bool : (b : Bool) → loses_next (if b then Some (asked_loss i.loss (kind_at i.net l) l n) else None) ≡ loses (if b then Some (asked_loss i.loss (kind_at i.net l) l 0) else None) (n + 1)
    by_bool true = refl
    by_bool false = refl

next_after : (i : Input) (l n : ℕ) → n + 1 < 2 ^ 64 → after_put (loss_after i l n) ≡ loss_after i l (n + 1)
next_after i l n h = by_bool (is_lossy (kind_at i.net l))
  where
    few : one_more n ≡ n + 1
    few = omega (arith, h)

    by_bool : (b : Bool) → after_put (if b then Some (asked_loss i.loss (kind_at i.net l) l n) else None) ≡ (if b then Some (asked_loss i.loss (kind_at i.net l) l (n + 1)) else None)
    by_bool true = ap (λ k. Some (asked_loss i.loss (kind_at i.net l) l k)) few
    by_bool false = refl

pub returns : goal.returns
returns c = record { next = next_lost; after = next_after }
