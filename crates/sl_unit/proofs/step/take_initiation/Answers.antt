use Rattle.std.proofs.Common.{ap, arith, length}
use Rattle.sl_unit.specs.Room.{registers_of}
use Rattle.sl_unit.proofs.Ways.{initiated_few}
use Rattle.sl_unit.proofs.step.take_initiation.Goals as goal

pub put_notice-requires : goal.put_notice-requires
put_notice-requires c = record { room = omega (arith, ap length c.initiate.ensures.puts, initiated_few c.args.wires.now (registers_of c.take_stamp.new.self), c.initiate.ensures.room, c.requires.room) }
