-- What the laws of machines that take a message start from.
--     TakesMessage s lost es e step m     after the entries es the entry e is this step, in which the message m is taken
use Rattle.std.specs.Prelude.{◌≡◌, List, Some}
use Rattle.sl_net.specs.Wired.{IsNet}
use Rattle.sl_model.specs.declared.message.Message.{Message}
use Rattle.sl_model.specs.declared.message.Step.{Step}
use Rattle.sl_model.specs.History.{Losses}
use Rattle.sl_model.specs.Setup.{Setup}
use Rattle.sl_model.specs.World.{Entry, next_step, world}

pub record TakesMessage (s : Setup) (lost : Losses) (es : List Entry) (e : Entry) (step : Step) (m : Message) : Type 0 where
  pub net : IsNet s.net
  pub next : next_step s lost (world s lost es) e ≡ Some step
  pub taken : step.taken ≡ Some m
