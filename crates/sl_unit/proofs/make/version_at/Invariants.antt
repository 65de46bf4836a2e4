use Rattle.std.proofs.Common.{◌≡◌, drop}
use Rattle.sl_parts.specs.Parts.{version_at}
use Rattle.sl_unit.proofs.make.version_at.Given as goal

abbrev pub invariant-loop-cable : goal.invariant-loop-cable
invariant-loop-cable l = record { rest : version_at l.other (drop l.cable-index l.cables) l.port ≡ version_at l.other l.cables l.port }
