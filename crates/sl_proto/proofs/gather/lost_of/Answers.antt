use Rattle.std.proofs.Common.{ap, arith, length}
use Rattle.sl_layout.specs.Net.{link_of, same_sort}
use Rattle.sl_world.specs.World.{scene}
use Rattle.sl_proto.specs.Told.{lost_told}
use Rattle.sl_proto.proofs.Told.{weigh_below_next}
use Rattle.sl_proto.proofs.gather.lost_of.Goals as goal

pub overflow_add-total : goal.overflow_add-total
overflow_add-total c = let net = c.args.net.now in
    let n = ap length c.links.ensures.now in
    let next = weigh_below_next (lost_told (scene c.args.world.now)) (λ l. same_sort (link_of net l).sort c.args.sort) c.loop-link.link (length net.links) (omega (arith, n, c.loop-link-test.true)) in
    omega (arith, next.0, next.1, c.lost_if-total.ensures, c.loop-link.invariant, c.requires.small)

pub loop-link-preserved : goal.loop-link-preserved
loop-link-preserved c = let net = c.args.net.now in
    let n = ap length c.links.ensures.now in
    let next = weigh_below_next (lost_told (scene c.args.world.now)) (λ l. same_sort (link_of net l).sort c.args.sort) c.loop-link.link (length net.links) (omega (arith, n, c.loop-link-test.true)) in
    omega (arith, next.0, c.lost_if-total.ensures, c.loop-link.invariant)
