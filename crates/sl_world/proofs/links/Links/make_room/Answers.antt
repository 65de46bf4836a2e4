use Rattle.std.proofs.Common.{◌≡◌, ◌<◌, ap, arith, length}
use Rattle.std.specs.Prelude.{slice_index}
use Rattle.sl_world.proofs.MeshLemmas.{count_is, mesh_kept, mesh_roomy, out_within}
use Rattle.sl_world.proofs.RoomLemmas.{length_same}
use Rattle.sl_world.proofs.links.Links.make_room.Goals as goal

pub make_room_at-requires-clause-within : goal.make_room_at-requires-clause-within
make_room_at-requires-clause-within g c o h =
    let fields = c.self.inside in
    let low : c.args.actor < length fields.wiring.ins = omega (arith, ap (λ m. length m.plan.ins) c.self.view_is, c.requires) in
    let low_outs : c.args.actor < length fields.wiring.outs = omega (arith, c.self.invariant.sound.outs_each) in
    let count : c.index-count.result.now ≡ slice_index fields.wiring.outs c.args.actor = count_is c.wiring.inside.out_counts.items fields.wiring.outs c.args.actor c.index-count.result.now (ap (λ p. p.outs) c.wiring.view_is) low_outs c.index-count.ensures in
    out_within fields.wiring fields.ins fields.outs fields.lines fields.roomy.items c.args.actor o c.self.invariant low (omega arith)

pub invariant_of-self : goal.invariant_of-self
invariant_of-self g c =
    let fields = c.self.inside in
    mesh_kept fields.wiring fields.ins fields.outs fields.lines c.make_room_at.new.lines fields.roomy.items c.self.invariant (length_same fields.lines c.make_room_at.new.lines c.make_room_at.ensures.lines) c.make_room_at.ensures.keeps

pub invariant_of-self-2 : goal.invariant_of-self-2
invariant_of-self-2 g c =
    let fields = c.self.inside in
    let low : c.args.actor < length fields.wiring.ins = omega (arith, ap (λ m. length m.plan.ins) c.self.view_is, c.requires) in
    let low_outs : c.args.actor < length fields.wiring.outs = omega (arith, c.self.invariant.sound.outs_each) in
    let count : c.index-count.result.now ≡ slice_index fields.wiring.outs c.args.actor = count_is c.wiring.inside.out_counts.items fields.wiring.outs c.args.actor c.index-count.result.now (ap (λ p. p.outs) c.wiring.view_is) low_outs c.index-count.ensures in
    let mesh = mesh_kept fields.wiring fields.ins fields.outs fields.lines c.make_room_at.new.lines fields.roomy.items c.self.invariant (length_same fields.lines c.make_room_at.new.lines c.make_room_at.ensures.lines) c.make_room_at.ensures.keeps in
    mesh_roomy fields.wiring fields.ins fields.outs c.make_room_at.new.lines fields.roomy.items c.args.actor c.index-count.result.now mesh low count c.in_ok-make_room_at.ensures.room
