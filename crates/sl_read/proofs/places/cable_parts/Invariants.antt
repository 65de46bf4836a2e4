use Rattle.std.proofs.Common.{◌≡◌, drop}
use Rattle.sl_read.specs.Places.{each, cable_part}
use Rattle.sl_read.proofs.RowLemmas.{with_front}
use Rattle.sl_read.proofs.places.cable_parts.Given as goal

abbrev pub invariant-loop-index : goal.invariant-loop-index
invariant-loop-index l = with_front l.found.items (each (cable_part l.devices l.version) l.index (drop l.index l.cables)) ≡ each (cable_part l.devices l.version) 0 l.cables
