-- What a scene of machines stands for: a world of whole histories.
--     AreQueued net sizes us a told ms xs     messages of machines stand, in order, for those on their way
--     ArePut net sizes us a h ps xs           the puts of a machine stand for those of a step after the history h
--     IsLineOf s lost sizes w l line          a link of the scene stands for the link l of the world w
--     IsImage s lost sizes Stands w v         the scene v stands for the world w
--     IsTurned ..                             a turn of a machine against a step of its actor
--     IsFirst s lost Stands states losses     what the first scene is made of
-- Stands w a state says that this state is the one of the actor a in the world w; sizes are those of what dumps hold.
use Rattle.std.specs.Prelude.{◌≡◌, ℕ, ◌<◌, Bool, false, List, [], ◌∷◌, length, Option, Some, None, slice_get, slice_index_or, unwrap_or}
use Rattle.sl_loss.specs.Loss.{Loss, is_lost}
use Rattle.sl_wire.specs.declared.message.Msg.{Msg}
use Rattle.sl_wire.specs.Sizes.{Sizes}
use Rattle.sl_layout.specs.Net.{Net, link_of, choice_of}
use Rattle.sl_layout.specs.Wires.{out_of}
use Rattle.sl_layout.specs.Wiring.{plan_of}
use Rattle.sl_model.specs.declared.message.Message.{Message}
use Rattle.sl_model.specs.declared.message.Put.{Put}
use Rattle.sl_model.specs.declared.message.Step.{Step}
use Rattle.sl_model.specs.History.{History, World, Losses, history, done_of, heard, put}
use Rattle.sl_model.specs.Setup.{Setup}
use Rattle.sl_model.specs.World.{start, sender, receiver}
use Rattle.sl_model.specs.Window.{on_way}
use Rattle.sl_model.specs.Findings.{lost_on}
use Rattle.sl_simulation.specs.Messages.{IsMessage}
use Rattle.sl_world.specs.Scene.{Line, Scene, line_at}

-- What was told of each unit, by its place: how many of its steps.

-- once this message came too
abbrev pub tell : (ℕ → ℕ) → Message → ℕ → ℕ
tell told m place = unwrap_or (done_of place m) (told place)

-- once all these came too, in order
abbrev pub tell_all : (ℕ → ℕ) → List Message → ℕ → ℕ
tell_all told [] place = told place
tell_all told (m ∷ ms) place = tell_all (tell told m) ms place

-- by what a history put on a link, and by what it took by a choice; 0 where nothing was told
abbrev pub told_on : ℕ → History → ℕ → ℕ
told_on l h = tell_all (λ place. 0) (put l h)

abbrev pub told_by : ℕ → History → ℕ → ℕ
told_by c h place = heard (done_of place) c h

-- Messages.

-- where a put these and so much was told before them
abbrev pub AreQueued : Net → Sizes → (ℕ → History) → ℕ → (ℕ → ℕ) → List Message → List Msg → Type 0
AreQueued net sizes us a told [] [] = Unit {0}
AreQueued net sizes us a told (m ∷ ms) (x ∷ xs) = IsMessage net sizes us a told m x × AreQueued net sizes us a (tell told m) ms xs
AreQueued net sizes us a told _ _ = ⊥

-- in order, each on the outgoing link that has the number of the put's link
abbrev pub ArePut : Net → Sizes → (ℕ → History) → ℕ → History → List Put → List (ℕ × Msg) → Type 0
ArePut net sizes us a h [] [] = Unit {0}
ArePut net sizes us a h (p ∷ ps) (x ∷ xs) =
    ((x.0 ≡ out_of net p.link) × IsMessage net sizes us a (told_on p.link h) p.message x.1) × ArePut net sizes us a h ps xs
ArePut net sizes us a h _ _ = ⊥

-- Links.

-- after n puts on a link, its loss goes on as this table says; where there is none, nothing is lost
abbrev pub GoesOn : (ℕ → Bool) → ℕ → Option Loss → Type 0
GoesOn lost n None = (k : ℕ) → lost k ≡ false
GoesOn lost n (Some loss) = (loss.answered ≡ n) × ((k : ℕ) → is_lost loss k ≡ lost k)

-- its queue stands for what is on its way; its loss has answered once for each put, and counted what is lost
pub record IsLineOf (s : Setup) (lost : Losses) (sizes : Sizes) (w : World) (l : ℕ) (line : Line Msg) : Type 0 where
  pub queue : AreQueued s.net sizes (history w) (link_of s.net l).from (told_by (choice_of s.net l) (receiver s.net w l)) (on_way s.net lost w l) line.queue
  pub loss : GoesOn (lost l) (length (put l (sender s.net w l))) line.loss
  pub count : line.lost ≡ lost_on s.net lost w l

-- Scenes.

pub record IsImage {S : Type 0} (s : Setup) (lost : Losses) (sizes : Sizes) (Stands : World → ℕ → S → Type 0) (w : World) (v : Scene S Msg) : Type 0 where
  pub plan : v.plan ≡ plan_of s.net
  pub states_each : length v.states ≡ length s.net.actors
  pub states : (a : ℕ) (state : S) → slice_get v.states a ≡ Some state → Stands w a state
  pub lines_each : length v.lines ≡ length s.net.links
  pub lines : (l : ℕ) → l < length s.net.links → IsLineOf s lost sizes w l (line_at v.lines l)

-- both are idle, or the scene that the turn leads to stands for the world that the step leads to
abbrev pub IsTurned : {S : Type 0} → Setup → Losses → Sizes → (World → ℕ → S → Type 0) → World → Option Step → Option (Scene S Msg) → Type 0
IsTurned s lost sizes Stands w None None = Unit {0}
IsTurned s lost sizes Stands w (Some step) (Some v) = IsImage s lost sizes Stands w v
IsTurned s lost sizes Stands w _ _ = ⊥

-- what the first scene is made of: each state stands for an empty history, and each loss goes on from no put
pub record IsFirst {S : Type 0} (s : Setup) (lost : Losses) (Stands : World → ℕ → S → Type 0) (states : List S) (losses : List (Option Loss)) : Type 0 where
  pub states_each : length states ≡ length s.net.actors
  pub states_stand : (a : ℕ) (state : S) → slice_get states a ≡ Some state → Stands (start s.net) a state
  pub losses_each : length losses ≡ length s.net.links
  pub losses_go : (l : ℕ) → l < length s.net.links → GoesOn (lost l) 0 (slice_index_or losses l None)
