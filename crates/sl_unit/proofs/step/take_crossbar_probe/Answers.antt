use Rattle.std.proofs.Common.{ap, arith, length}
use Rattle.sl_unit.specs.Room.{registers_of}
use Rattle.sl_unit.proofs.Ways.{probed_few}
use Rattle.sl_unit.proofs.step.take_crossbar_probe.Goals as goal

pub put_notice-requires : goal.put_notice-requires
put_notice-requires c = record { room = omega (arith, ap length c.probe.ensures.puts, probed_few c.args.wires.now c.args.own (registers_of c.take_stamp.new.self), c.probe.ensures.room, c.requires.room) }
