-- An input loses nothing on a reliable link.
use Rattle.std.proofs.Common.{ap, Some, None}
use Rattle.std.specs.Prelude.{if◌then◌else◌}
use Rattle.sl_layout.specs.declared.actor.LinkKind.{LinkKind}
use Rattle.sl_layout.specs.Wiring.{is_lossy}
use Rattle.sl_net.specs.Input.{Input}
use Rattle.sl_model.specs.World.{IsLossTable}
use Rattle.sl_model.specs.Losses.{asked_loss, loses, losses}

-- on a reliable link nothing is lost
pub spared : (i : Input) → IsLossTable i.net (losses i)
spared i l n reliable = ap (λ (k : LinkKind). loses (if is_lossy k then Some (asked_loss i.loss k l 0) else None) n) reliable
