use Rattle.std.proofs.Common.{◌≡◌, [], take, drop}
use Rattle.sl_parts.specs.Fault.{first_clash, reuses_port}
use Rattle.sl_parts.specs.Ports.{HasEnds}
use Rattle.sl_parts.proofs.ports.join_cables.Given as goal

abbrev pub invariant-loop-i : goal.invariant-loop-i
invariant-loop-i l = record {
  clash : first_clash reuses_port (take l.i l.cables) (drop l.i l.cables) ≡ first_clash reuses_port [] l.cables;
  ends : HasEnds l.devices (take l.i l.cables) l.ends.items;
}
