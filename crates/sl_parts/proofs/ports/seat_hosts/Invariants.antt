use Rattle.std.proofs.Common.{◌≡◌, [], take, drop, length}
use Rattle.sl_parts.specs.Fault.{first_clash, takes_used_port}
use Rattle.sl_parts.specs.Ports.{HasGuests}
use Rattle.sl_parts.proofs.ports.seat_hosts.Given as goal

abbrev pub invariant-loop-i : goal.invariant-loop-i
invariant-loop-i l = record {
  clash : first_clash (takes_used_port l.parts) (take l.i l.parts.hosts) (drop l.i l.parts.hosts) ≡ first_clash (takes_used_port l.parts) [] l.parts.hosts;
  guests : HasGuests (length l.parts.devices) (take l.i l.parts.hosts) l.guests.items;
}
