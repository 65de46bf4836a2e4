-- Trusted text.
-- Which entries put what links carried, by the numbers that entries have.
use Rattle.std.specs.Prelude.{ℕ, ◌-◌, List, [], ◌++◌, length, replicate}
use Rattle.sl_layout.specs.Net.{Net}
use Rattle.sl_model.specs.History.{World, Losses}
use Rattle.sl_model.specs.World.{carried}

-- for each link the numbers of the entries that put the messages which it carried so far, in order
abbrev pub Putters : Type 0
Putters = ℕ → List ℕ

abbrev pub no_putters : Putters
no_putters l = []

-- the same after an entry with the number n, which leads from the world w to the world v
abbrev pub putters_after : Net → Losses → World → World → ℕ → Putters → Putters
putters_after net lost w v n putters l = putters l ++ replicate (length (carried net lost v l) - length (carried net lost w l)) n
