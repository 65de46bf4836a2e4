-- How the steps of a history are made, with no world in sight, and the order on links.
--     IsMade s a h     each step of h is a step of the actor a after the steps before it
--     Fifo c h ms      what h took by the choice c is, in order, a front of ms
--     IsFifoRun s lost w     what holds in every world that a schedule reaches
use Rattle.std.specs.Prelude.{◌≡◌, ℕ, ◌-◌, ◌⊎◌, List, [], ◌∷◌, ◌++◌, length, Some, None, slice_get}
use Rattle.sl_layout.specs.Net.{Net, links_into, actor_of, action_choice}
use Rattle.sl_model.specs.declared.message.Message.{Message}
use Rattle.sl_model.specs.declared.message.Step.{Step}
use Rattle.sl_model.specs.History.{History, World, Losses, history, taken, takes}
use Rattle.sl_model.specs.Setup.{Setup}
use Rattle.sl_model.specs.Puts.{puts_of, action}
use Rattle.sl_model.specs.World.{carried}

-- a step that takes a message, after the history h of the actor a
pub record Took (s : Setup) (a : ℕ) (h : History) (step : Step) : Type 0 where
  pub link : ℕ
  pub message : Message
  pub into : slice_get (links_into s.net a) step.choice ≡ Some link
  pub taken : step.taken ≡ Some message
  pub puts : step.puts ≡ puts_of s a (actor_of s.net a) h step.choice link message

-- a step that acts, at some floor, after the history h of the actor a
pub record Acted (s : Setup) (a : ℕ) (h : History) (step : Step) : Type 0 where
  pub past : slice_get (links_into s.net a) step.choice ≡ None
  pub taken : step.taken ≡ None
  pub floor : ℕ
  pub puts : action s floor a (actor_of s.net a) h (step.choice - action_choice s.net a) ≡ Some step.puts

abbrev pub IsMade : Setup → ℕ → History → Type 0
IsMade s a [] = Unit {0}
IsMade s a (step ∷ h) = (Took s a h step ⊎ Acted s a h step) × IsMade s a h

abbrev pub AllMade : Setup → World → Type 0
AllMade s w = (a : ℕ) → IsMade s a (history w a)

-- first in, first out: rest is what is still on its way
pub record Fifo (c : ℕ) (h : History) (ms : List Message) : Type 0 where
  pub rest : List Message
  pub split : ms ≡ takes c h ++ rest
  pub count : length (takes c h) ≡ taken c h

abbrev pub AllFifo : Net → Losses → World → Type 0
AllFifo net lost w = (a c l : ℕ) → slice_get (links_into net a) c ≡ Some l → Fifo c (history w a) (carried net lost w l)

pub record IsFifoRun (s : Setup) (lost : Losses) (w : World) : Type 0 where
  pub made : AllMade s w
  pub fifo : AllFifo s.net lost w
