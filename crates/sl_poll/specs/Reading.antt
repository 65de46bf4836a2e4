-- Trusted text.
-- Polling: the units are read one after the other, the unit at the place i after the first S + i G entries of a schedule, or after all.
--     reads ..       what each unit counted until it was read
--     breaks ..      whether a packet was taken before its receiver was read, and put after its sender was
--     polled ..      the reads, and the first such packet where there is one
use Rattle.std.specs.Prelude.{ℕ, ◌+◌, ◌*◌, min, Bool, ◌&&◌, List, map, length, take, nat_le, nat_lt, Option, slice_index, find}
use Rattle.sl_parts.specs.Parts.{below}
use Rattle.sl_layout.specs.Net.{Net, link_of, units, unit_place}
use Rattle.sl_model.specs.History.{History, Losses, history}
use Rattle.sl_model.specs.Counting.{packets, bytes}
use Rattle.sl_model.specs.Setup.{Setup}
use Rattle.sl_model.specs.World.{Entry, world}
use Rattle.sl_poll.specs.declared.trail.Pair.{Pair}
use Rattle.sl_poll.specs.declared.reading.Read1.{Read1}
use Rattle.sl_poll.specs.Trail.{pairs}

-- how many entries come before the unit at a place is read, of so many
abbrev pub read_after : ℕ → ℕ → ℕ → ℕ → ℕ
read_after count start gap place = min (start + place * gap) count

-- what an actor did in the first entries
abbrev pub done_in : Setup → Losses → List Entry → ℕ → ℕ → History
done_in s lost es at a = history (world s lost (take at es)) a

abbrev pub read_of : ℕ → ℕ → History → Read1
read_of place at h = record { unit = place; at = at; packets = packets h; bytes = bytes h }

abbrev pub read : Setup → Losses → List Entry → ℕ → ℕ → ℕ → Read1
read s lost es start gap place = read_of place (read_after (length es) start gap place)
    (done_in s lost es (read_after (length es) start gap place) (slice_index (units s.net) place))

abbrev pub reads : Setup → Losses → List Entry → ℕ → ℕ → List Read1
reads s lost es start gap = map (read s lost es start gap) (below (length (units s.net)))

-- its taking entry comes before its receiver was read, and its putting entry after its sender was
abbrev pub breaks : Net → ℕ → ℕ → ℕ → Pair → Bool
breaks net count start gap p = nat_le p.take (read_after count start gap (unit_place net (link_of net p.link).to))
    && nat_lt (read_after count start gap (unit_place net (link_of net p.link).from)) p.put

-- pairs stand in the order of their taking entries
abbrev pub broken_by : Setup → Losses → List Entry → ℕ → ℕ → Option Pair
broken_by s lost es start gap = find (breaks s.net (length es) start gap) (pairs s lost es)
