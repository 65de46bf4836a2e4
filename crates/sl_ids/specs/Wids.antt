-- Trusted text for nodes.
-- Wrapped ids as values.
use Rattle.std.specs.Prelude.{ℕ}
use Rattle.sl_ids.specs.declared.wid.Wid.{Wid}
use Rattle.sl_ids.specs.Ids.{wrapped}

abbrev pub wid : ℕ → ℕ → Wid
wid bits k = record { raw = wrapped bits k }
