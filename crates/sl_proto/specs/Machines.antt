-- What the machines of a net are asked for, so that a scene of them goes on standing for a world.
--     MachineSimulates ..     a turn of any machine simulates a step; MachineActSimulates an action
--     FollowSteps ..     each turn of a machine does the step of its actor, and is idle where this has none
--     FollowHistories ..          so it is in a net that is one
--     Shown, Begun Stands         a scene of such machines, beside turns for whose world it stands, or with nothing done
use Rattle.std.specs.Prelude.{◌≡◌, ℕ, ◌^◌, ◌<◌, length, List, Option, Some, None, slice_get}
use Rattle.sl_machine.specs.Machine.{After, Rules}
use Rattle.sl_machine.specs.Plan.{IsSound}
use Rattle.sl_layout.specs.Wiring.{plan_of}
use Rattle.sl_net.specs.Wired.{IsNet}
use Rattle.sl_wire.specs.declared.message.Msg.{Msg}
use Rattle.sl_wire.specs.Sizes.{Sizes}
use Rattle.sl_layout.specs.Net.{link_of, links_into}
use Rattle.sl_model.specs.declared.message.Message.{Message}
use Rattle.sl_model.specs.declared.message.Step.{Step}
use Rattle.sl_model.specs.History.{World, Losses, history}
use Rattle.sl_model.specs.Setup.{Setup}
use Rattle.sl_model.specs.World.{Entry, IsLossTable, next_step, turn, world, kept_from}
use Rattle.sl_simulation.specs.Messages.{IsMessage}
use Rattle.sl_loss.specs.Loss.{Loss}
use Rattle.sl_world.specs.Scene.{Scene, first_scene}
use Rattle.sl_proto.specs.Image.{told_by, ArePut, IsImage, IsFirst}

-- the turn (a, c) with this step leads from the world w to the world v
pub record MachineSimulates {S : Type 0} (s : Setup) (sizes : Sizes) (Stands : World → ℕ → S → Type 0) (w v : World) (a : ℕ) (step : Step) (after : After S Msg) : Type 0 where
  pub state : Stands v a after.state
  pub puts : ArePut s.net sizes (history v) a (history w a) step.puts after.puts

-- an action that leaves this
pub record MachineActSimulates {S : Type 0} (s : Setup) (sizes : Sizes) (Stands : World → ℕ → S → Type 0) (w v : World) (a : ℕ) (step : Step) (acted : Option (After S Msg)) : Type 0 where
  pub after : After S Msg
  pub is : acted ≡ Some after
  pub simulates : MachineSimulates s sizes Stands w v a step after

pub record FollowSteps {S : Type 0} (s : Setup) (lost : Losses) (sizes : Sizes) (Stands : World → ℕ → S → Type 0) (rules : Rules S Msg) : Type 0 where
  -- a message that stands for the one that the step takes, from the link l
  pub take : (es : List Entry) (a c l : ℕ) (step : Step) (m : Message) (x : Msg) (state : S) → length es < 2 ^ 40
      → next_step s lost (world s lost es) (a, c) ≡ Some step → slice_get (links_into s.net a) c ≡ Some l → step.taken ≡ Some m
      → IsMessage s.net sizes (history (world s lost es)) (link_of s.net l).from (told_by c (history (world s lost es) a)) m x
      → Stands (world s lost es) a state
      → MachineSimulates s sizes Stands (world s lost es) (turn s lost (world s lost es) (a, c)) a step (rules.take state c x)
  pub act : (es : List Entry) (a c : ℕ) (step : Step) (state : S) → length es < 2 ^ 40
      → next_step s lost (world s lost es) (a, c) ≡ Some step → slice_get (links_into s.net a) c ≡ None
      → Stands (world s lost es) a state
      → MachineActSimulates s sizes Stands (world s lost es) (turn s lost (world s lost es) (a, c)) a step (rules.act state c)
  pub idle : (es : List Entry) (a c : ℕ) (state : S) → length es < 2 ^ 40 → a < length s.net.actors
      → next_step s lost (world s lost es) (a, c) ≡ None → slice_get (links_into s.net a) c ≡ None
      → Stands (world s lost es) a state → rules.act state c ≡ None
  -- a step of another actor
  pub stays : (es : List Entry) (a b c : ℕ) (step : Step) (state : S) → length es < 2 ^ 40
      → next_step s lost (world s lost es) (a, c) ≡ Some step → (b ≡ a → ⊥)
      → Stands (world s lost es) b state → Stands (turn s lost (world s lost es) (a, c)) b state

-- what the laws of schedules ask: the net is one, its wiring sound, its reliable links lose nothing, and the machines follow the steps
pub record FollowHistories {S : Type 0} (s : Setup) (lost : Losses) (sizes : Sizes) (Stands : World → ℕ → S → Type 0) (rules : Rules S Msg) : Type 0 where
  pub net : IsNet s.net
  pub sound : IsSound (plan_of s.net)
  pub table : IsLossTable s.net lost
  pub steps : FollowSteps s lost sizes Stands rules

-- What the laws of schedules speak of.

-- the scene stands for the world of these turns
pub record Shown {S : Type 0} (Stands : World → ℕ → S → Type 0) : Type 0 where
  pub setup : Setup
  pub lost : Losses
  pub sizes : Sizes
  pub rules : Rules S Msg
  pub turns : List Entry
  pub scene : Scene S Msg
  pub follow : FollowHistories setup lost sizes Stands rules
  pub image : IsImage setup lost sizes Stands (world setup lost turns) scene

abbrev pub world_shown : {S : Type 0} {Stands : World → ℕ → S → Type 0} → Shown Stands → World
world_shown t = world t.setup t.lost t.turns

-- those of these entries that are not idle after the turns
abbrev pub kept_shown : {S : Type 0} {Stands : World → ℕ → S → Type 0} → Shown Stands → List Entry → List Entry
kept_shown t es = kept_from t.setup t.lost (world_shown t) es

-- the states and losses of a first scene
pub record Begun {S : Type 0} (Stands : World → ℕ → S → Type 0) : Type 0 where
  pub setup : Setup
  pub lost : Losses
  pub sizes : Sizes
  pub rules : Rules S Msg
  pub states : List S
  pub losses : List (Option Loss)
  pub follow : FollowHistories setup lost sizes Stands rules
  pub first : IsFirst setup lost Stands states losses

abbrev pub scene_begun : {S : Type 0} {Stands : World → ℕ → S → Type 0} → Begun Stands → Scene S Msg
scene_begun b = first_scene (plan_of b.setup.net) b.states b.losses
