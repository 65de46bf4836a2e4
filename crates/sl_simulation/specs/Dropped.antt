-- What an ingress unit makes of what its host sends, by its causes. r are the registers before.
--     bad_one r            one frame more was dropped as bad, and nothing else changed
--     expired_one p r      the packet p was counted, and dropped since its hop limit was 0
--     noroute_one p r      it was counted, and dropped since its destination has no route
use Rattle.sl_net.specs.declared.input.Packet.{Packet}
use Rattle.sl_unit.specs.Registers.{Registers, counted, more}
use Rattle.sl_unit.specs.Step.{UnitState}

abbrev pub bad_one : Registers → Registers
bad_one r = record r { bad = more r.bad 1 }

abbrev pub expired_one : Packet → Registers → Registers
expired_one p r = let q = counted p.len r in record q { expired = more q.expired 1 }

abbrev pub noroute_one : Packet → Registers → Registers
noroute_one p r = let q = counted p.len r in record q { noroute = more q.noroute 1 }

abbrev pub with_registers : UnitState → Registers → UnitState
with_registers s r = record s { registers = r }
