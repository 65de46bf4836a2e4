-- Late data of a snapshot: the data packets with stamps below k that a unit took in the steps outside its cut.
use Rattle.std.specs.Prelude.{◌≡◌, ℕ, Bool, List, filter, nat_lt}
use Rattle.sl_layout.specs.Net.{Net, choice_of}
use Rattle.sl_model.specs.declared.message.Message.{Message}
use Rattle.sl_model.specs.Words.{weigh}
use Rattle.sl_model.specs.History.{History, World, Losses, takes}
use Rattle.sl_model.specs.World.{receiver}
use Rattle.sl_model.specs.Cut.{outside, channel_value, data_count, data_bytes}
use Rattle.sl_model.specs.Fit.{stamp}

abbrev pub is_old : ℕ → Message → Bool
is_old k m = nat_lt (stamp m) k

-- the messages with stamps below k that it took by the choice c outside its cut
abbrev pub late : ℕ → ℕ → History → List Message
late k c h = filter (is_old k) (takes c (outside k h))

-- the channel value of a link is that of the late data of its receiver
pub record IsLateData (net : Net) (lost : Losses) (w : World) (k l : ℕ) : Type 0 where
  pub packets : (channel_value net lost w k l).packets ≡ weigh data_count (late k (choice_of net l) (receiver net w l))
  pub bytes : (channel_value net lost w k l).bytes ≡ weigh data_bytes (late k (choice_of net l) (receiver net w l))
