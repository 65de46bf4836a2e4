use Rattle.std.proofs.Common.{◌≡◌, ◌≤◌}
use Rattle.sl_wire.specs.Reach.{reached}
use Rattle.sl_wire.specs.Wids.{unwrapped_each}
use Rattle.sl_control.specs.Rows.{seen_on}
use Rattle.sl_control.proofs.known.lasts_told.Given as goal

abbrev pub invariant-loop-channel : goal.invariant-loop-channel
invariant-loop-channel l =
    let told = unwrapped_each l.width.bits l.known l.wids in
    record {
      last : l.last ≡ seen_on l.channel told;
      reached : l.reached ≡ reached l.channel l.id told;
      most : l.reached ≤ l.id;
    }
