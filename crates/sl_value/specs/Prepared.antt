-- When a control plane that keeps values is ready for a turn.
use Rattle.std.specs.Prelude.{◌≡◌, ℕ, List, Option, IsSome}
use Rattle.std.specs.List.{AllByRecursion}
use Rattle.sl_control.specs.Control.{ControlView}
use Rattle.sl_value.specs.declared.kept.Kept.{Kept}
use Rattle.sl_value.specs.Valued.{HasRoom}

-- where it is ready, so is the control plane inside, and there is room for the values of a ring of each unit
pub record IsPrepared (control : ControlView) (kept : List Kept) (prepared : Option ℕ) : Type 0 where
  pub ready : IsSome prepared → control.ready ≡ prepared
  pub room : IsSome prepared → AllByRecursion (HasRoom control.state.wires.sizes.ring) kept
