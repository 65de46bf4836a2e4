use Rattle.sl_world.proofs.MeshLemmas.{mesh_kept}
use Rattle.sl_world.proofs.RoomLemmas.{length_changed}
use Rattle.sl_world.proofs.links.Links.take.Goals as goal

pub invariant_of-self : goal.invariant_of-self
invariant_of-self g c =
    let fields = c.self.inside in
    mesh_kept fields.wiring fields.ins fields.outs fields.lines c.take.new.self fields.roomy.items c.self.invariant (length_changed fields.lines c.take.new.self c.args.link _ c.take.ensures.rest) c.take.ensures.keeps
