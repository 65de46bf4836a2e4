-- Trusted text.
-- The book of the run of an input: its script, and then finishing.
use Rattle.std.specs.Prelude.{◌≡◌, ℕ, List, length, take, drop}
use Rattle.std.specs.List.{range_with_len}
use Rattle.sl_machine.specs.declared.wiring.Entry.{Entry as BookEntry}
use Rattle.sl_net.specs.Input.{Input}
use Rattle.sl_model.specs.History.{Losses}
use Rattle.sl_model.specs.Setup.{setup_of}
use Rattle.sl_model.specs.World.{world, kept, IsLegal}
use Rattle.sl_model.specs.Schedule.{expand}
use Rattle.sl_model.specs.End.{IsFin}
use Rattle.sl_model.specs.Books.{schedule_of, numbers_of}

-- the first entries, so many as front says, are those of the script that aren't idle; the others are what finishing takes from the world that they
-- reach; none of all is idle; and they are numbered from 1
pub record IsBookOfRun (i : Input) (lost : Losses) (book : List BookEntry) (front : ℕ) : Type 0 where
  pub count : front ≡ length (kept (setup_of i) lost (expand i.net i.script))
  pub script : take front (schedule_of book) ≡ kept (setup_of i) lost (expand i.net i.script)
  pub finishing : IsFin (setup_of i) lost (world (setup_of i) lost (take front (schedule_of book))) (drop front (schedule_of book))
  pub legal : IsLegal (setup_of i) lost (schedule_of book)
  pub numbers : numbers_of book ≡ range_with_len 1 (length book)
