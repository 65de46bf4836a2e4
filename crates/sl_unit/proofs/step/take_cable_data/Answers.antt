use Rattle.std.proofs.Common.{ap, arith, length}
use Rattle.sl_unit.specs.Room.{registers_of}
use Rattle.sl_unit.proofs.Ways.{routed_few}
use Rattle.sl_unit.proofs.step.take_cable_data.Goals as goal

pub put_notice-requires : goal.put_notice-requires
put_notice-requires c = record { room = omega (arith, ap length c.route.ensures.puts, routed_few c.args.wires.now c.args.packet (registers_of c.take_data.new.self), c.route.ensures.room, c.requires.room) }
