-- What a reading has kept of all that it was told: the sums of its units, and the first pair that breaks it.
use Rattle.std.specs.Prelude.{◌≡◌, ◌<◌, List, length, IfSome, find}
use Rattle.sl_layout.specs.Net.{Net, units}
use Rattle.sl_poll.specs.declared.poll.Polling.{Polling}
use Rattle.sl_poll.specs.declared.trail.Counted.{Counted}
use Rattle.sl_poll.specs.declared.trail.Pair.{Pair}
use Rattle.sl_poll.specs.Reading.{read_after, breaks}
use Rattle.sl_poll.specs.Sums.{Summed}

pub record HasRead (net : Net) (first now : Polling) (ps : List Pair) (cs : List Counted) : Type 0 where
  pub pace : now.pace ≡ first.pace
  pub sums : Summed (read_after first.pace.count first.pace.start first.pace.gap) cs (length (units net)) now.sums.items
  pub broken : now.broken ≡ find (breaks net first.pace.count first.pace.start first.pace.gap) ps
  pub link : IfSome now.broken (λ p. p.link < length net.links)
