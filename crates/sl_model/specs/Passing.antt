-- How messages pass from those that put them to those that take them (Chandy and Lamport 1985: channels).
use Rattle.std.specs.Prelude.{◌≡◌, ℕ, ◌≤◌, List, length, Option, Some, true, slice_get}
use Rattle.sl_layout.specs.declared.actor.ActorId.TheVariants.{Unit as OfUnit}
use Rattle.sl_layout.specs.declared.actor.UnitId.{UnitId}
use Rattle.sl_layout.specs.Net.{links_into, actor_of}
use Rattle.sl_parts.specs.Lists.{Each, Member}
use Rattle.sl_model.specs.declared.message.Message.{Message}
use Rattle.sl_model.specs.declared.message.Put.{Put}
use Rattle.sl_model.specs.declared.message.Step.{Step}
use Rattle.sl_model.specs.Words.{numbers, last_of}
use Rattle.sl_model.specs.History.{History, World, Losses, history, heard, dump_of, takes, put, on_link}
use Rattle.sl_model.specs.Setup.{Setup}
use Rattle.sl_model.specs.World.{sender}
use Rattle.sl_model.specs.Made.{IsMade, IsFifoRun}
use Rattle.sl_model.specs.Fit.{fits_link}
use Rattle.sl_model.specs.Turns.{Takes}
use Rattle.sl_model.specs.Window.{on_way}

pub record PassesMessages : Type 0 where
  -- what is put on a link is put there, and fits it
  pub by_link : (l : ℕ) (ps : List Put) → Each (λ m. Member (record { link = l; message = m }) ps) (on_link l ps)
  pub fits : (s : Setup) (lost : Losses) (w : World) (l : ℕ) → IsFifoRun s lost w → Each (λ m. fits_link s.net l m ≡ true) (put l (sender s.net w l))
  -- what a step takes was put on its link; so was each message that was taken by the link's choice, and each that is on its way
  pub came : (s : Setup) (lost : Losses) (w : World) (a : ℕ) (step : Step) (t : Takes s lost w a step)
      → Member t.took.message (put t.took.link (sender s.net w t.took.link))
  pub taken : (s : Setup) (lost : Losses) (w : World) (a c l : ℕ) → IsFifoRun s lost w → slice_get (links_into s.net a) c ≡ Some l
      → Each (λ m. Member m (put l (sender s.net w l))) (takes c (history w a))
  pub coming : (s : Setup) (lost : Losses) (w : World) (a c l : ℕ) → IsFifoRun s lost w → slice_get (links_into s.net a) c ≡ Some l
      → Each (λ m. Member m (put l (sender s.net w l))) (on_way s.net lost w l)
  -- the last number taken by a choice is the one heard last
  pub last_heard : (f : Message → Option ℕ) (c : ℕ) (h : History) → last_of 0 (numbers f (takes c h)) ≡ heard f c h
  -- a unit's dump tells no more steps than it made
  pub dumps : (s : Setup) (u l : ℕ) (i : UnitId) (h : History) → actor_of s.net u ≡ OfUnit i → IsMade s u h
      → Each (λ m. (n : ℕ) → dump_of m ≡ Some n → n ≤ length h) (put l h)
