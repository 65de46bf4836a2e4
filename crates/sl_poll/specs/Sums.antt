-- What units counted until they were read, told by the steps that count. The unit at a place is read after `at place` entries.
--     read_in at cs place     those of these steps that are the unit's and come before it is read
use Rattle.std.specs.Prelude.{◌≡◌, ℕ, ◌+◌, ◌<◌, Bool, ◌&&◌, List, length, filter, nat_le, ◌==◌, if◌then◌else◌, slice_set, slice_index_or}
use Rattle.sl_model.specs.Words.{weigh}
use Rattle.sl_poll.specs.declared.trail.Counted.{Counted}
use Rattle.sl_poll.specs.declared.reading.Read1.{Read1}
use Rattle.sl_poll.specs.declared.sums.Sum.{Sum}

abbrev pub is_read : ℕ → ℕ → Counted → Bool
is_read at place c = (c.unit == place) && nat_le c.entry at

abbrev pub read_in : (ℕ → ℕ) → List Counted → ℕ → List Counted
read_in at cs place = filter (is_read (at place) place) cs

abbrev pub bytes_in : List Counted → ℕ
bytes_in cs = weigh (λ c. c.bytes) cs

abbrev pub read_by : (ℕ → ℕ) → List Counted → ℕ → Read1
read_by at cs place = record { unit = place; at = at place; packets = length (read_in at cs place); bytes = bytes_in (read_in at cs place) }

-- Sums of units, by their places.

abbrev pub no_sum : Sum
no_sum = record { packets = 0; bytes = 0 }

abbrev pub sum_at : List Sum → ℕ → Sum
sum_at sums place = slice_index_or sums place no_sum

abbrev pub with_one : Counted → Sum → Sum
with_one c sum = record { packets = sum.packets + 1; bytes = sum.bytes + c.bytes }

-- after one step more, which is added where it comes before its unit is read
abbrev pub add_one : (ℕ → ℕ) → Counted → List Sum → List Sum
add_one at c sums = if nat_le c.entry (at c.unit) then slice_set sums c.unit (with_one c (sum_at sums c.unit)) else sums

abbrev pub read_of_sum : (ℕ → ℕ) → List Sum → ℕ → Read1
read_of_sum at sums place = record { unit = place; at = at place; packets = (sum_at sums place).packets; bytes = (sum_at sums place).bytes }

-- the sums of so many units are what these steps count for them
pub record Summed (at : ℕ → ℕ) (cs : List Counted) (count : ℕ) (sums : List Sum) : Type 0 where
  pub each : length sums ≡ count
  pub packets : (i : ℕ) → i < count → (sum_at sums i).packets ≡ length (read_in at cs i)
  pub bytes : (i : ℕ) → i < count → (sum_at sums i).bytes ≡ bytes_in (read_in at cs i)
