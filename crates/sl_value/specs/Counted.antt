-- Trusted text, but for counters, value_read.
-- The value of a number by a view, in the variant without channel state (Yaseen, Sonchack and Liu 2018; that a skipped number takes the next saved
-- value is this project's form of it).
--     value_read view id k    what a view of the number id gives for the number k
--     counted k h             what a unit with the history h counted before its id reached k
use Rattle.std.specs.Prelude.{ℕ, Option, Some, None}
use Rattle.sl_saves.specs.declared.entry.View.{View}
use Rattle.sl_saves.specs.Views.{Place, walk, last_place}
use Rattle.sl_model.specs.History.{History}
use Rattle.sl_model.specs.Cut.{value}
use Rattle.sl_value.specs.declared.whole.Whole.{Whole}

-- the counters saved at a place, 0 where there is none
abbrev pub counters : Option Place → Whole
counters None = record { packets = 0; bytes = 0 }
counters (Some p) = record { packets = p.slot.packets; bytes = p.slot.bytes }

-- the walk for k goes down from the id, and its last place is that of the least number saved from k on
abbrev pub value_read : View → ℕ → ℕ → Whole
value_read view id k = counters (last_place (walk view id k))

abbrev pub counted : ℕ → History → Whole
counted k h = record { packets = (value k h).packets; bytes = (value k h).bytes }
