use Rattle.std.proofs.Common.{◌≡◌, drop}
use Rattle.sl_layout.specs.Net.{place_in}
use Rattle.sl_unit.proofs.make.place_in.Given as goal

abbrev pub invariant-loop-other : goal.invariant-loop-other
invariant-loop-other l = record { rest : place_in l.place l.number (drop l.other-index l.numbers) ≡ place_in 0 l.number l.numbers; at : l.place ≡ l.other-index }
