-- Where a control plane that keeps values has none, whatever turns it took.
--     collected_in rs unit     the number up to which the rows of a unit are collected, by its place among the units, of the first of these that it is
--     IsUncollected o k        there is no value for the number k: the unit isn't there, or k is 0 or above that number
--     turned net a sizes ts    the state of the control plane a that took these turns, from the first on
use Rattle.std.specs.Prelude.{◌≡◌, ◌⊎◌, ℕ, ◌<◌, ◌==◌, if◌then◌else◌, List, [], ◌∷◌, Option, Some, None}
use Rattle.sl_machine.specs.Turns.{Turn, after}
use Rattle.sl_layout.specs.Net.{Net}
use Rattle.sl_wire.specs.declared.message.Msg.{Msg}
use Rattle.sl_wire.specs.Sizes.{Sizes}
use Rattle.sl_control.specs.declared.known.Known.{Known}
use Rattle.sl_value.specs.Valued.{ValueState, first_value, value_rules}

abbrev pub collected_in : List Known → ℕ → Option ℕ
collected_in [] unit = None
collected_in (r ∷ rs) unit = if r.wires.place == unit then Some r.upto else collected_in rs unit

abbrev pub IsUncollected : Option ℕ → ℕ → Type 0
IsUncollected None k = Unit {0}
IsUncollected (Some upto) k = (k ≡ 0) ⊎ (upto < k)

abbrev pub turned : Net → ℕ → Sizes → List (Turn Msg) → ValueState
turned net a sizes ts = (after value_rules (first_value net a sizes) ts).state
