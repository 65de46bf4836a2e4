-- Trusted text.
-- The losses of an input.
--     loss_on i l      what decides which puts on the link l are lost, None where it is reliable
--     losses i l n     the n-th put on the link l is lost
use Rattle.std.specs.Prelude.{ℕ, ◌==◌, Bool, false, if◌then◌else◌, List, map, filter, Option, Some, None}
use Rattle.sl_loss.specs.Loss.{Loss, is_lost}
use Rattle.sl_layout.specs.declared.actor.LinkKind.{LinkKind}
use Rattle.sl_layout.specs.Net.{Net, link_of}
use Rattle.sl_layout.specs.Wiring.{kind_of, is_lossy}
use Rattle.sl_net.specs.Input.{LossSpec, Input, rate_of}
use Rattle.sl_model.specs.History.{Losses}

abbrev pub kind_at : Net → ℕ → LinkKind
kind_at net l = kind_of (link_of net l).sort

-- the numbers of a link's puts that are listed
abbrev pub drops_on : LossSpec → ℕ → List ℕ
drops_on loss l = map (λ d. d.n) (filter (λ d. d.link == l) loss.drops)

-- the loss of a lossy link of the kind, when n puts were asked of
abbrev pub asked_loss : LossSpec → LinkKind → ℕ → ℕ → Loss
asked_loss loss kind l n = record { seed = loss.seed; link = l; rate = rate_of loss kind; drops = drops_on loss l; answered = n }

-- the loss of a link, when n puts were asked of
abbrev pub loss_after : Input → ℕ → ℕ → Option Loss
loss_after i l n = if is_lossy (kind_at i.net l) then Some (asked_loss i.loss (kind_at i.net l) l n) else None

abbrev pub loss_on : Input → ℕ → Option Loss
loss_on i l = loss_after i l 0

abbrev pub loses : Option Loss → ℕ → Bool
loses None n = false
loses (Some loss) n = is_lost loss n

abbrev pub losses : Input → Losses
losses i l n = loses (loss_on i l) n
