-- What is known of a unit, beside what was known before.
use Rattle.std.specs.Prelude.{◌≡◌, ℕ, ◌<◌, ◌≤◌, min, slice_index_or}
use Rattle.sl_control.specs.declared.known.Known.{Known}

-- each number is at least what it was, those of the data channels that the unit has among them
pub record IsNoLess (was now : Known) : Type 0 where
  pub wires : now.wires ≡ was.wires
  pub id : was.id ≤ now.id
  pub cpu : was.cpu ≤ now.cpu
  pub lasts : (channel : ℕ) → channel < min 8 was.wires.channels → slice_index_or was.last channel 0 ≤ slice_index_or now.last channel 0
  pub upto : was.upto ≤ now.upto
