use Rattle.std.proofs.Common.{get_or, subst, ◌∙◌, arith, below_more}
use Rattle.std.proofs.lemmas.List.{get_or_default}
use Rattle.sl_parts.specs.declared.parts.DevicePart.{DevicePart}
use Rattle.sl_parts.specs.Text.{IsName}
use Rattle.sl_net.proofs.names.device_names.Goals as goal

pub loop-device-preserved : goal.loop-device-preserved
loop-device-preserved c = below_more (λ k. (d : DevicePart) → IsName (get_or c.args.devices.now k d).name) c.loop-device.device-index c.loop-device.invariant
    (λ d. subst (λ (x : DevicePart). IsName x.name) (c.device-item.is ∙ get_or_default c.args.devices.now c.loop-device.device-index c.device-item.result d c.loop-device-test.true) c.as_str.ensures.name)

pub returns : goal.returns
returns c = λ k d h. c.loop-device.invariant k (omega arith) d
