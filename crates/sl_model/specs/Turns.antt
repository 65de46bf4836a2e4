-- What a turn does to a world (Lamport 1978: an event of one process, after its earlier ones). It is idle, or a step of its actor.
--     GrowsAt w v a step       the world v is the world w with this step of the actor a
--     Takes, Acts              a step with the message that its link has next, or at the floor of the world
--     Begins                   what the observer begins
--     TakesTurns               what holds of every turn, whatever the schedule and the losses
use Rattle.std.specs.Prelude.{◌≡◌, ◌⊎◌, ℕ, suc, ◌<◌, ◌≤◌, List, [], ◌∷◌, ◌++◌, length, Some, true}
use Rattle.sl_layout.specs.declared.actor.ActorId.TheVariants.{Observer}
use Rattle.sl_layout.specs.Net.{Net, actor_of}
use Rattle.sl_parts.specs.Lists.{Each}
use Rattle.sl_model.specs.declared.message.Put.{Put}
use Rattle.sl_model.specs.declared.message.Step.{Step}
use Rattle.sl_model.specs.History.{History, World, Losses, history, first, taken, steps_in}
use Rattle.sl_model.specs.Setup.{Setup}
use Rattle.sl_model.specs.Words.{weigh}
use Rattle.sl_model.specs.Findings.{ingress_units}
use Rattle.sl_model.specs.Knowledge.{issued, can_issue, can_resend}
use Rattle.sl_model.specs.Puts.{begin_all, action}
use Rattle.sl_model.specs.World.{Entry, start, next_step, turn, run, world, front, floor_for, IsLegalFrom, kept_from}
use Rattle.sl_model.specs.Made.{Took, Acted, IsFifoRun}
use Rattle.sl_model.specs.Fit.{fits_link}

pub record GrowsAt (w v : World) (a : ℕ) (step : Step) : Type 0 where
  pub same : history v a ≡ step ∷ history w a
  pub other : (b : ℕ) → (b ≡ a → ⊥) → history v b ≡ history w b

-- the first steps of an actor stay what they are
pub record Extends (w v : World) (u : ℕ) : Type 0 where
  pub steps : (n : ℕ) → n ≤ length (history w u) → first n (history v u) ≡ first n (history w u)

pub record Takes (s : Setup) (lost : Losses) (w : World) (a : ℕ) (step : Step) : Type 0 where
  pub took : Took s a (history w a) step
  pub found : front s.net lost w a step.choice took.link ≡ Some took.message

pub record Acts (s : Setup) (w : World) (a : ℕ) (step : Step) : Type 0 where
  pub acted : Acted s a (history w a) step
  pub now : acted.floor ≡ floor_for s.net w (actor_of s.net a)

-- the n-th action of the observer, at the floor f, after the history h: Begins of the next number, or of the last once more
pub record Begins (s : Setup) (f : ℕ) (h : History) (n : ℕ) (ps : List Put) : Type 0 where
  pub number : ℕ
  pub puts : ps ≡ begin_all s.net number
  pub kind : ((n ≡ 0) × (number ≡ suc (issued s.net h)) × (can_issue s f h ≡ true))
      ⊎ ((n ≡ 1) × (number ≡ issued s.net h) × (can_resend s f h ≡ true))

pub record TakesTurns : Type 0 where
  -- a world has a history for each actor, empty at the start
  pub starts : (net : Net) (a : ℕ) → history (start net) a ≡ []
  pub actors : (s : Setup) (lost : Losses) (es : List Entry) → length (world s lost es) ≡ length s.net.actors
  -- a schedule in two parts, and one without its idle entries, which leads to the same world
  pub parts : (s : Setup) (lost : Losses) (w : World) (es fs : List Entry) → run s lost w (es ++ fs) ≡ run s lost (run s lost w es) fs
  pub legal_parts : (s : Setup) (lost : Losses) (w : World) (es fs : List Entry) → IsLegalFrom s lost w es
      → IsLegalFrom s lost (run s lost w es) fs → IsLegalFrom s lost w (es ++ fs)
  pub kept : (s : Setup) (lost : Losses) (w : World) (es : List Entry) → run s lost w (kept_from s lost w es) ≡ run s lost w es
  pub legal : (s : Setup) (lost : Losses) (w : World) (es : List Entry) → IsLegalFrom s lost w (kept_from s lost w es)
  -- a step is one of an actor of the net, by the choice of its entry
  pub within : (s : Setup) (lost : Losses) (w : World) (e : Entry) (step : Step) → next_step s lost w e ≡ Some step → e.0 < length s.net.actors
  pub choice : (s : Setup) (lost : Losses) (w : World) (e : Entry) (step : Step) → next_step s lost w e ≡ Some step → step.choice ≡ e.1
  -- it takes a message, one that fits its link, or acts
  pub view : (s : Setup) (lost : Losses) (w : World) (e : Entry) (step : Step) → next_step s lost w e ≡ Some step
      → Takes s lost w e.0 step ⊎ Acts s w e.0 step
  pub fits : (s : Setup) (lost : Losses) (w : World) (a : ℕ) (step : Step) → IsFifoRun s lost w → (t : Takes s lost w a step)
      → fits_link s.net t.took.link t.took.message ≡ true
  -- what it puts fits its links
  pub puts : (s : Setup) (a : ℕ) (h : History) (step : Step) → Took s a h step ⊎ Acted s a h step → Each (λ p. fits_link s.net p.link p.message ≡ true) step.puts
  pub begins : (s : Setup) (f n : ℕ) (h : History) (ps : List Put) → action s f 0 Observer h n ≡ Some ps → Begins s f h n ps
  -- the history of its actor grows by it, and the others stay
  pub grows : (s : Setup) (lost : Losses) (es : List Entry) (e : Entry) (step : Step) → next_step s lost (world s lost es) e ≡ Some step
      → GrowsAt (world s lost es) (turn s lost (world s lost es) e) e.0 step
  pub others : (s : Setup) (lost : Losses) (w : World) (e : Entry) (a : ℕ) → (a ≡ e.0 → ⊥) → history (turn s lost w e) a ≡ history w a
  pub extends : (s : Setup) (lost : Losses) (w : World) (e : Entry) (a : ℕ) → Extends w (turn s lost w e) a
  -- a choice is counted in the steps by it
  pub counted : (c : ℕ) (step : Step) (h : History) → step.choice ≡ c → taken c (step ∷ h) ≡ suc (taken c h)
  pub uncounted : (c : ℕ) (step : Step) (h : History) → (step.choice ≡ c → ⊥) → taken c (step ∷ h) ≡ taken c h
  pub at_most : (c : ℕ) (h : History) → taken c h ≤ length h
  -- each world that a schedule leads to is a run, with no more steps of an actor than there are entries
  pub fifo_run : (s : Setup) (lost : Losses) (es : List Entry) → IsFifoRun s lost (world s lost es)
  pub goes_on : (s : Setup) (lost : Losses) (w : World) (e : Entry) → IsFifoRun s lost w → IsFifoRun s lost (turn s lost w e)
  pub few : (s : Setup) (lost : Losses) (es : List Entry) (a : ℕ) → length (history (world s lost es) a) ≤ length es
  -- nor of all actors, those of the ingress units among them
  pub all_few : (s : Setup) (lost : Losses) (es : List Entry) → steps_in (world s lost es) ≤ length es
  pub ingress : (net : Net) (w : World) → length w ≡ length net.actors → weigh (λ u. length (history w u)) (ingress_units net) ≤ steps_in w
