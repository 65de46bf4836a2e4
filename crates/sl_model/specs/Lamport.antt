-- Trusted text.
-- The numbers of the entries of a legal schedule by the clock of Lamport, "Time, Clocks, and the Ordering of Events in a Distributed System", 1978.
-- An entry's number is one more than the larger of two: that of its actor's entry before it, and that of the entry that put the message which it took.
-- One that isn't there counts as 0.
--     lamport_numbers s lost es    the numbers of all entries, in order
use Rattle.std.specs.Prelude.{ℕ, ◌+◌, max, List, [], ◌∷◌, ◌==◌, if◌then◌else◌, Option, Some, None, slice_get, slice_index_or}
use Rattle.sl_layout.specs.Net.{Net, links_into}
use Rattle.sl_model.specs.History.{World, Losses, history, taken}
use Rattle.sl_model.specs.Setup.{Setup}
use Rattle.sl_model.specs.World.{Entry, start, turn}
use Rattle.sl_model.specs.Putting.{Putters, no_putters, putters_after}

-- for each actor the number of its last entry, and for each link those of the entries that put what it carried
pub record Clocks : Type 0 where
  pub last : ℕ → ℕ
  pub putters : Putters

-- the number of the entry that put what the entry e takes from the link, where it takes from one
abbrev pub number_taken : World → Clocks → Entry → Option ℕ → ℕ
number_taken w c e (Some l) = slice_index_or (c.putters l) (taken e.1 (history w e.0)) 0
number_taken w c e None = 0

abbrev pub number_of : Setup → World → Clocks → Entry → ℕ
number_of s w c e = max (c.last e.0) (number_taken w c e (slice_get (links_into s.net e.0) e.1)) + 1

-- after the entry e with the number n, which leads from the world w to the world v
abbrev pub clocks_after : Net → Losses → World → World → Entry → ℕ → Clocks → Clocks
clocks_after net lost w v e n c = record { last = λ a. if a == e.0 then n else c.last a; putters = putters_after net lost w v n c.putters }

abbrev pub numbers_on : Setup → Losses → World → Clocks → List Entry → List ℕ
numbers_on s lost w c [] = []
numbers_on s lost w c (e ∷ es) =
    number_of s w c e ∷ numbers_on s lost (turn s lost w e) (clocks_after s.net lost w (turn s lost w e) e (number_of s w c e) c) es

abbrev pub no_clocks : Clocks
no_clocks = record { last = λ a. 0; putters = no_putters }

abbrev pub lamport_numbers : Setup → Losses → List Entry → List ℕ
lamport_numbers s lost es = numbers_on s lost (start s.net) no_clocks es
