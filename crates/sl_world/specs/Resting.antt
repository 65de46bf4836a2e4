-- Actions that are known to be idle.
use Rattle.std.specs.Prelude.{◌≡◌, ◌+◌, ℕ, List, Some, is_some, false, length, slice_get, slice_index_or}
use Rattle.sl_machine.specs.Machine.{Rules}

-- for each actor 0, or one more than the choice of an action whose guard is false
pub record AreResting {S M : Type 0} (rules : Rules S M) (states : List S) (resting : List ℕ) : Type 0 where
  pub each : length resting ≡ length states
  pub idle : (a c : ℕ) (s : S) → slice_get states a ≡ Some s → slice_index_or resting a 0 ≡ c + 1 → is_some (rules.act s c) ≡ false
