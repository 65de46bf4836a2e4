-- Runs of a net whose findings are sayable: flows of short packets, and not too many entries.
use Rattle.std.specs.Prelude.{◌≡◌, ℕ, ◌<◌, ◌^◌, List, length}
use Rattle.sl_layout.specs.Net.{Net}
use Rattle.sl_model.specs.Setup.{Setup}
use Rattle.sl_model.specs.Short.{SendsShort}
use Rattle.sl_model.specs.World.{Entry}
use Rattle.sl_report.specs.Sayable.{IsSmall}

-- a run on the net, of so many snapshots, by this schedule
pub record IsShortRun (net : Net) (count : ℕ) (s : Setup) (schedule : List Entry) : Type 0 where
  pub net_is : s.net ≡ net
  pub count_is : s.count ≡ count
  pub few : IsSmall count
  pub sends : SendsShort s
  pub short : length schedule < 2 ^ 40
