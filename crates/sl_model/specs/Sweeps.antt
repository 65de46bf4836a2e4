-- Trusted text.
-- The sweeps of a schedule: how many of its entries are sweeps of control planes.
use Rattle.std.specs.Prelude.{◌==◌, List, ℕ, ◌&&◌, Bool}
use Rattle.sl_layout.specs.Net.{Net, action_choice, actor_of}
use Rattle.sl_model.specs.Bound.{is_control}
use Rattle.sl_model.specs.Words.{tally}
use Rattle.sl_model.specs.World.{Entry}

abbrev pub sweeps_at : Net → Entry → Bool
sweeps_at net e = is_control (actor_of net e.0) && (e.1 == action_choice net e.0)

abbrev pub sweeps_in : Net → List Entry → ℕ
sweeps_in net es = tally (sweeps_at net) es
