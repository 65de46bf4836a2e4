use Rattle.std.proofs.Common.{arith, zero-add}
use Rattle.std.proofs.lemmas.Grind.{common_steps}
use Rattle.std.proofs.lemmas.List.FromFn.{map-range_with_len_more}
use Rattle.sl_parts.specs.Parts.{used_ports}
use Rattle.sl_layout.proofs.layout.all_ports.Goals as goal

pub loop-device-preserved : goal.loop-device-preserved
loop-device-preserved c = rw (map-range_with_len_more (used_ports c.args.parts.now) 0 c.loop-device.device _ (zero-add c.loop-device.device)) (grind (arith, common_steps))
