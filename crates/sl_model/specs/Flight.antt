-- What is on its way, weighed. A weight says what a message on a link may still cause.
use Rattle.std.specs.Prelude.{ℕ}
use Rattle.sl_layout.specs.Net.{Net, link_numbers}
use Rattle.sl_model.specs.History.{Losses, World}
use Rattle.sl_model.specs.Window.{on_way}
use Rattle.sl_model.specs.Words.{weigh}
use Rattle.sl_model.specs.declared.message.Message.{Message}

abbrev pub Weight : Type 0
Weight = ℕ → Message → ℕ

abbrev pub flight : Weight → Net → Losses → World → ℕ
flight weight net lost w = weigh (λ l. weigh (weight l) (on_way net lost w l)) (link_numbers net)
