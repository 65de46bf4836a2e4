-- Whether a host has put all its frames.
use Rattle.std.specs.Prelude.{◌≡◌, ℕ, length, Some, slice_get}
use Rattle.sl_layout.specs.declared.actor.ActorId.TheVariants.{Host as OfHost}
use Rattle.sl_layout.specs.Net.{action_choice}
use Rattle.sl_model.specs.History.{World, history, taken}
use Rattle.sl_model.specs.Setup.{Setup, frames_of}

-- the actor is no host, or it has put all its frames
abbrev pub HasSent : Setup → World → ℕ → Type 0
HasSent s w a = (h : ℕ) → slice_get s.net.actors a ≡ Some (OfHost h) → taken (action_choice s.net a) (history w a) ≡ length (frames_of s h)
