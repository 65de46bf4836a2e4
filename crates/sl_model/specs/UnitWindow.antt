-- The window at a unit: what it asks of a stamp that comes, and what saved entries ask of a call.
use Rattle.std.specs.Prelude.{ℕ, ◌+◌, ◌<◌, ◌≤◌}
use Rattle.sl_saves.specs.Calls.{Call, Adopt, Credited}
use Rattle.sl_model.specs.History.{History, id, last}

-- an adoption by 1 to the window, or a credit of one of eight channels with an age of 1 to the window
abbrev pub IsWithin : ℕ → Call → Type 0
IsWithin window (Adopt by packets bytes) = (1 ≤ by) × (by ≤ window)
IsWithin window (Credited c) = (c.channel < 8) × (1 ≤ c.age) × (c.age ≤ window)

-- a stamp j by the choice c lies from the last-seen number there to the window above it, and at most the window from the id; so does the id
pub record IsTakeable (window c : ℕ) (h : History) (j : ℕ) : Type 0 where
  pub order : last c h ≤ j
  pub ahead : j ≤ last c h + window
  pub above : j ≤ id h + window
  pub below : id h ≤ j + window
  pub behind : last c h ≤ id h
  pub lag : id h ≤ last c h + window
