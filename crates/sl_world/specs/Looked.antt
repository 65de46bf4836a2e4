-- Schedules whose links were looked up.
use Rattle.std.specs.Prelude.{◌≡◌, ◌+◌, ◌<◌, ◌≤◌, ℕ, List, length, slice_index_or}
use Rattle.sl_world.specs.declared.looked.Step.{Step}

-- the entry of a step, and its link
abbrev pub entry_of : Step → (ℕ × ℕ) × ℕ
entry_of s = ((s.actor, s.choice), s.link)

abbrev pub step_at : List Step → ℕ → Step
step_at steps k = slice_index_or steps k (record { actor = 0; choice = 0; link = 0; run = 0 })

-- the links of as many steps as a run counts stand one after another
pub record HasRuns (steps : List Step) : Type 0 where
  pub some : (k : ℕ) → k < length steps → 0 < (step_at steps k).run
  pub within : (k : ℕ) → k < length steps → k + (step_at steps k).run ≤ length steps
  pub links : (k i : ℕ) → k < length steps → i < (step_at steps k).run → (step_at steps (k + i)).link ≡ (step_at steps k).link + i
