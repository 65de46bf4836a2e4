use Rattle.std.proofs.Common.{◌≡◌, ◌≤◌, drop}
use Rattle.std.specs.Prelude.{min}
use Rattle.std.specs.List.{fold}
use Rattle.sl_wire.proofs.reach.least_of.Given as goal

abbrev pub invariant-loop-other : goal.invariant-loop-other
invariant-loop-other l = record { least : fold min l.least (drop l.other-index l.others) ≡ fold min l.number l.others; most : l.least ≤ l.number }
