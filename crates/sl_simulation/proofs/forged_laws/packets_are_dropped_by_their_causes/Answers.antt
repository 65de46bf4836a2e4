use Rattle.std.proofs.Common.{Some, None}
use Rattle.sl_unit.specs.Registers.{counted}
use Rattle.sl_unit.specs.Step.{onward}
use Rattle.sl_simulation.proofs.Taken.{routed-taken, routed-expired, routed-onward, expired_after}
use Rattle.sl_simulation.proofs.forged_laws.packets_are_dropped_by_their_causes.Goals as goal

pub returns-clause-expired : goal.returns-clause-expired
returns-clause-expired c s choice bytes p e q z = routed-taken s choice bytes p (expired_after s p) e q (routed-expired s p z)

pub returns-clause-noroute : goal.returns-clause-noroute
returns-clause-noroute c s choice bytes p e q n none =
    routed-taken s choice bytes p (onward s.wires p (counted p.len s.registers) None) e q (routed-onward s p None n none)

pub returns-clause-onward : goal.returns-clause-onward
returns-clause-onward c s choice bytes p port e q n some =
    routed-taken s choice bytes p (onward s.wires p (counted p.len s.registers) (Some port)) e q (routed-onward s p (Some port) n some)
