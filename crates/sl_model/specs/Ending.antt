-- Trusted text.
-- How a schedule ends.
--     IsFirstIdle s lost es n     its n-th entry, n from 1, is idle, and none before it
--     HasEnding s lost es e       it has an idle entry, or it is legal and its world is finished or not
use Rattle.std.specs.Prelude.{◌≡◌, ℕ, suc, List, ◌∷◌, ◌++◌, length, None}
use Rattle.sl_model.specs.History.{Losses}
use Rattle.sl_model.specs.Setup.{Setup}
use Rattle.sl_model.specs.World.{Entry, next_step, world, IsLegal}
use Rattle.sl_model.specs.End.{IsFinished}
use Rattle.sl_model.specs.declared.ending.Ending.{Ending}
use Rattle.sl_model.specs.declared.ending.Ending.TheVariants.{Idle, Unfinished, Finished}

pub record IsFirstIdle (s : Setup) (lost : Losses) (es : List Entry) (n : ℕ) : Type 0 where
  pub before : List Entry
  pub entry : Entry
  pub rest : List Entry
  pub whole : es ≡ before ++ (entry ∷ rest)
  pub number : n ≡ suc (length before)
  pub legal : IsLegal s lost before
  pub idle : next_step s lost (world s lost before) entry ≡ None

abbrev pub HasEnding : Setup → Losses → List Entry → Ending → Type 0
HasEnding s lost es (Idle n) = IsFirstIdle s lost es n
HasEnding s lost es Unfinished = IsLegal s lost es × (IsFinished s lost (world s lost es) → ⊥)
HasEnding s lost es Finished = IsLegal s lost es × IsFinished s lost (world s lost es)
