-- A run to its end: the entries of a schedule that aren't idle, and then what finishing takes.
use Rattle.std.specs.Prelude.{List, ◌≤◌, length}
use Rattle.sl_model.specs.Bound.{bound_of}
use Rattle.sl_model.specs.End.{IsFinished}
use Rattle.sl_model.specs.History.{Losses}
use Rattle.sl_model.specs.Setup.{Setup}
use Rattle.sl_model.specs.World.{Entry, IsLegal, world}
use Rattle.sl_model.specs.Sweeps.{sweeps_in}

pub record IsEnded (s : Setup) (lost : Losses) (es book : List Entry) : Type 0 where
  pub legal : IsLegal s lost book
  pub finished : IsFinished s lost (world s lost book)
  pub within : length book ≤ bound_of s (sweeps_in s.net es)
