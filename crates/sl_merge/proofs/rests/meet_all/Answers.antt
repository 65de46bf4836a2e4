use Rattle.std.proofs.Common.{◌<◌, length, arith}
use Rattle.sl_merge.proofs.RestLemmas.{rests_on, before_on}
use Rattle.sl_merge.proofs.rests.meet_all.Goals as goal

pub loop-link-preserved : goal.loop-link-preserved
loop-link-preserved g c =
    let h = c.loop-link.invariant in
    let n = c.loop-link.link-index in
    let links = c.args.links.now in
    let low : n < length c.args.links.now = omega arith in
    let end = c.take_at-end in
    let part = c.take_at-part in (
      rests_on links n c.args.takes.now.items c.loop-link.takes.items c.args.outs.now.items c.loop-link.outs.items end.result part.result c.loop-link.rests c.add_rest.new.rests low h.1 end.ensures.what part.ensures.what c.in_ok-add_rest.ensures h.0,
      before_on links n c.args.takes.now.items c.loop-link.takes.items c.args.outs.now.items c.loop-link.outs.items end.result part.result end.new.rows.items part.new.rows.items c.requires.apart low h.1 end.ensures.what part.ensures.what end.ensures.rest part.ensures.rest,
    )
