-- Trusted text.
-- The turns of a book, and their numbers.
use Rattle.std.specs.Prelude.{ℕ, List, map}
use Rattle.sl_machine.specs.declared.wiring.Entry.{Entry as BookEntry}
use Rattle.sl_model.specs.World.{Entry}

abbrev pub schedule_of : List BookEntry → List Entry
schedule_of es = map (λ e. (e.actor, e.choice)) es

abbrev pub numbers_of : List BookEntry → List ℕ
numbers_of es = map (λ e. e.number) es
