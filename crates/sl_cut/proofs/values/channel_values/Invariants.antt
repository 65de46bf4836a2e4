use Rattle.sl_model.specs.Cut.{channel_value}
use Rattle.sl_model.specs.Losses.{losses}
use Rattle.std.proofs.Common.{take, ◌≡◌}
use Rattle.std.specs.Prelude.{map, slice_index_or}
use Rattle.sl_cut.proofs.values.channel_values.Given as goal

abbrev pub invariant-loop-channel : goal.invariant-loop-channel
invariant-loop-channel l = l.totals.items
    ≡ map (channel_value l.input.net (losses l.input) l.world l.snapshot) (map (λ c. slice_index_or l.into c 0) (take l.channel-index l.channels))
