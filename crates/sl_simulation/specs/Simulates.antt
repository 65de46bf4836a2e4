-- When a turn of a machine simulates a step of the actor a: the state that it leaves stands for what is so after the step, and its puts stand for
-- those of the step. us gives the histories after it.
--     Simulates Stands .. x        what the turn leaves is x
--     ActSimulates Stands .. o     of an action, which may be done or not
-- UnitSimulates, ControlSimulates and the like say it of one kind of machine.
use Rattle.std.specs.Prelude.{◌≡◌, ℕ, List, Option, Some}
use Rattle.sl_machine.specs.Machine.{After}
use Rattle.sl_layout.specs.Net.{Net}
use Rattle.sl_wire.specs.declared.message.Msg.{Msg}
use Rattle.sl_wire.specs.Sizes.{Sizes}
use Rattle.sl_model.specs.declared.message.Put.{Put}
use Rattle.sl_model.specs.History.{History}
use Rattle.sl_simulation.specs.Messages.{AreSent}

pub record Simulates {S : Type 0} (Stands : S → Type 0) (net : Net) (sizes : Sizes) (us : ℕ → History) (a : ℕ) (told : ℕ → ℕ) (ps : List Put) (x : After S Msg) : Type 0 where
  pub stands : Stands x.state
  pub sent : AreSent net sizes us a told ps x.puts

-- it is done, and leaves this
pub record ActSimulates {S : Type 0} (Stands : S → Type 0) (net : Net) (sizes : Sizes) (us : ℕ → History) (a : ℕ) (told : ℕ → ℕ) (ps : List Put) (o : Option (After S Msg)) : Type 0 where
  pub after : After S Msg
  pub is : o ≡ Some after
  pub simulates : Simulates Stands net sizes us a told ps after
