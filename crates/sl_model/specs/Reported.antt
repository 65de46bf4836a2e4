-- What is known of a unit: so many of its first steps.
use Rattle.std.specs.Prelude.{◌≡◌, ℕ, ◌≤◌, length}
use Rattle.sl_layout.specs.declared.actor.ActorId.TheVariants.{Unit as OfUnit}
use Rattle.sl_layout.specs.declared.actor.UnitId.{UnitId}
use Rattle.sl_layout.specs.Net.{Net, actor_of, choice_of, unit_place}
use Rattle.sl_net.specs.Wired.{Reports}
use Rattle.sl_model.specs.Words.{numbers}
use Rattle.sl_model.specs.History.{World, Losses, history, heard, dump_of, done_of, takes, put}
use Rattle.sl_model.specs.Setup.{Setup}
use Rattle.sl_model.specs.Knowledge.{observer, known, dumped}
use Rattle.sl_model.specs.Made.{IsFifoRun}

-- r is how the unit u reports
pub record IsReported (net : Net) (w : World) (u : ℕ) (r : Reports net u) : Type 0 where
  -- the observer knows what the last Done on the unit's link said
  pub told : known (unit_place net u) (observer w) ≡ heard (done_of (unit_place net u)) (choice_of net r.done) (observer w)
  -- it knows no more steps than the unit made, and neither does the control plane
  pub at_most : known (unit_place net u) (observer w) ≤ length (history w u)
  pub dumped_at_most : dumped (choice_of net r.dump) (history w r.control) ≤ length (history w u)
  -- the control plane's Dones tell what the dumps told
  pub dones : numbers (done_of (unit_place net u)) (put r.done (history w r.control)) ≡ numbers dump_of (takes (choice_of net r.dump) (history w r.control))

-- so are all units, in each world that is a run
abbrev pub AreReported : Setup → Type 0
AreReported s = (lost : Losses) (w : World) (u : ℕ) (i : UnitId) (r : Reports s.net u) → IsFifoRun s lost w → actor_of s.net u ≡ OfUnit i → IsReported s.net w u r
