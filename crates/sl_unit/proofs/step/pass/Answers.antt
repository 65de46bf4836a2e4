use Rattle.std.proofs.Common.{◌≡◌, ◌++◌, ap, ◌∙◌, arith, length, refl}
use Rattle.sl_layout.specs.declared.actor.Sort.TheVariants as sort
use Rattle.sl_unit.specs.declared.wires.Way.TheVariants.{All}
use Rattle.sl_unit.specs.Wires.{outs}
use Rattle.sl_unit.specs.Room.{registers_of}
use Rattle.sl_unit.specs.Step.{data_frame}
use Rattle.sl_machine.specs.Machine.{send_all}
use Rattle.sl_unit.proofs.Outs.{length_sent}
use Rattle.sl_unit.proofs.Ways.{two_ways}
use Rattle.sl_unit.proofs.step.pass.Goals as goal

pub pass_to_host-requires : goal.pass_to_host-requires
pass_to_host-requires c =
    let exits = c.args.wires.now.exits in
    let frame = data_frame c.args.wires.now (registers_of c.args.registers.now) c.args.packet.now in
    let links = outs (All sort.Cable) exits in
    let sent = send_all frame links in
    let n : length c.pass_to_cable.new.out.items ≡ length sent = ap length (c.pass_to_cable.ensures.puts ∙ ap (λ xs. xs ++ sent) c.requires.empty) in
    let few = two_ways (All sort.Cable) (All sort.ToHost) exits refl in
    record { room = omega (arith, n, few, length_sent frame links, c.pass_to_cable.ensures.room, c.requires.room) }
