-- What came late on a data channel, as a total.
use Rattle.std.specs.Prelude.{ℕ}
use Rattle.sl_saves.specs.declared.entry.Total.{Total}
use Rattle.sl_model.specs.Words.{weigh}
use Rattle.sl_model.specs.History.{History}
use Rattle.sl_model.specs.Cut.{data_count, data_bytes}
use Rattle.sl_model.specs.Late.{late}

-- the data packets with stamps below k that came by the choice c outside the cut of k, and their bytes
abbrev pub late_total : ℕ → ℕ → History → Total
late_total k c h = record { packets = weigh data_count (late k c h); bytes = weigh data_bytes (late k c h) }
