-- Trusted text, but for Run, Follows, Goes, IsBookOfTurns.
-- Runs: a world beside the book that led to it.
--     grown book es              the book once these turns came too
--     Goes, Follows              what a run does by some entries, none of which is idle, or by any entries
--     IsBookOfTurns b es         the book of a run from nothing whose turns are these
use Rattle.std.specs.Prelude.{◌≡◌, List, ◌++◌, length}
use Rattle.std.specs.List.{range_with_len}
use Rattle.sl_machine.specs.declared.wiring.Entry.{Entry as BookEntry}
use Rattle.sl_machine.specs.Book.{Book}
use Rattle.sl_model.specs.History.{World, Losses}
use Rattle.sl_model.specs.Setup.{Setup}
use Rattle.sl_model.specs.World.{Entry, run, kept_from}
use Rattle.sl_model.specs.Books.{schedule_of, numbers_of}
use Rattle.sl_world.specs.Scene.{last_number}
use Rattle.sl_world.specs.Legal.{numbered_from}

pub record Run : Type 0 where
  pub world : World
  pub book : List BookEntry

-- each has a number one above the entry before it, and the first entry of a book the number 1
abbrev pub grown : List BookEntry → List Entry → List BookEntry
grown book es = book ++ numbered_from (last_number book) es

-- the run after the schedule
pub record Follows (s : Setup) (lost : Losses) (old : Run) (es : List Entry) (new : Run) : Type 0 where
  pub reached : new.world ≡ run s lost old.world es
  pub book : new.book ≡ grown old.book (kept_from s lost old.world es)

-- the run after these entries, none of which is idle
pub record Goes (s : Setup) (lost : Losses) (old : Run) (es : List Entry) (new : Run) : Type 0 where
  pub reached : new.world ≡ run s lost old.world es
  pub book : new.book ≡ grown old.book es

-- numbered from 1
pub record IsBookOfTurns (b : Book) (es : List Entry) : Type 0 where
  pub schedule : schedule_of b.entries ≡ es
  pub numbers : numbers_of b.entries ≡ range_with_len 1 (length b.entries)
