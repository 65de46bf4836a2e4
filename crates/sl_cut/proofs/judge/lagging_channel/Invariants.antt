use Rattle.sl_model.specs.Verdict.{channel_lag}
use Rattle.sl_model.specs.Words.{first_from}
use Rattle.std.proofs.Common.{drop, ◌≡◌}
use Rattle.std.specs.Prelude.{reverse}
use Rattle.sl_cut.proofs.judge.lagging_channel.Given as goal

abbrev pub invariant-loop-channel : goal.invariant-loop-channel
invariant-loop-channel l = record { place : l.place ≡ l.channel-index; rest : first_from l.channel-index (channel_lag l.snapshot (reverse l.steps)) (drop l.channel-index l.channels) ≡ first_from 0 (channel_lag l.snapshot (reverse l.steps)) l.channels }
