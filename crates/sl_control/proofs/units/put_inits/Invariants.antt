use Rattle.std.proofs.Common.{◌≡◌, ◌++◌, take}
use Rattle.sl_wire.specs.declared.message.Msg.TheVariants.{Frame}
use Rattle.sl_machine.specs.Machine.{send_all}
use Rattle.sl_control.proofs.units.put_inits.Given as goal

abbrev pub invariant-loop-link : goal.invariant-loop-link
invariant-loop-link l = record {
  puts : l.out.items ≡ l.initial.out.items ++ send_all (Frame l.frame) (take l.link-index l.outs);
  room : l.out.room ≡ l.initial.out.room;
}
