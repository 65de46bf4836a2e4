use Rattle.sl_model.specs.Setup.{setup_of}
use Rattle.std.proofs.Common.{rules, arith}
use Rattle.sl_cut.proofs.Sent.{frames_counted}
use Rattle.sl_cut.proofs.ending.frame_count.Goals as goal

pub returns : goal.returns
returns c = frames_counted (setup_of c.args.input.now) c.args.host c.in_ok-packets.packets.items c.deref-2.result.now c.len.result c.raw_count-raws.result
    (search rules) (omega (arith, c.len.ensures, c.in_ok-packets.packets.ok)) (search rules) c.raw_count-raws.ensures.count
