use Rattle.std.proofs.Common.{rules}
use Rattle.sl_proto.specs.Standing.{run_at}
use Rattle.sl_proto.specs.Fronts.{ResendsBy, Whatever}
use Rattle.sl_proto.proofs.Fronts.{rounds-short, resend-front, resend-leads}
use Rattle.sl_proto.proofs.finishing.take_resend.Goals as goal

pub returns-in_err-drive-clause-leads : goal.returns-in_err-drive-clause-leads
returns-in_err-drive-clause-leads g c x h = let scene = g.T.Taker.scene in
    let old = run_at x (scene c.args.taker.now) in let new = run_at x (scene c.drive.new.taker) in
    rounds-short x (ResendsBy x.setup x.lost old.world) Whatever old new (scene c.drive.new.taker) c.from_residual.result (search rules)
    (resend-front c.args.net.now x (scene c.args.taker.now) (scene c.drive.new.taker) c.resend_entry.result h c.resend_entry.ensures (c.drive.ensures.driven.front x h))

pub returns-clause-leads : goal.returns-clause-leads
returns-clause-leads g c x h = let scene = g.T.Taker.scene in
    resend-leads c.args.net.now x (scene c.args.taker.now) (scene c.drive.new.taker) c.resend_entry.result h c.resend_entry.ensures
    c.entries.result c.entries-before.result c.entries.ensures c.entries-before.ensures (c.in_ok-drive.ensures.driven.follows x h)
