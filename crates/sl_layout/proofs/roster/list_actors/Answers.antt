use Rattle.std.proofs.Common.{◌∷◌, arith, zero-add}
use Rattle.std.proofs.lemmas.Grind.{common_steps}
use Rattle.std.proofs.lemmas.List.FromFn.{map-range_with_len_more}
use Rattle.sl_layout.specs.declared.actor.ActorId.TheVariants.{Control, Host}
use Rattle.sl_layout.specs.Net.{units_of}
use Rattle.sl_parts.proofs.Lists.{flat_map_below_more}
use Rattle.sl_layout.proofs.roster.list_actors.Goals as goal

pub loop-device-preserved : goal.loop-device-preserved
loop-device-preserved c = rw (flat_map_below_more (λ d. Control d ∷ units_of c.args.layout.now d) c.loop-device.device) (grind (arith, common_steps))

pub loop-host-preserved : goal.loop-host-preserved
loop-host-preserved c = rw (map-range_with_len_more Host 0 c.loop-host.host _ (zero-add c.loop-host.host)) (grind (arith, common_steps))
