use Rattle.std.proofs.Common.{◌≡◌, ◌∙◌, set, ap}
use Rattle.sl_world.specs.Mesh.{lines_of}
use Rattle.sl_world.proofs.RoomLemmas.{lines_of-same}
use Rattle.sl_world.proofs.MarkLemmas.{marked-same}
use Rattle.sl_world.proofs.marked_lines.MarkedLines.make_room.Goals as goal

pub invariant_of-self : goal.invariant_of-self
invariant_of-self g c =
    let views = c.self.inside.lines.items in
    let same : lines_of (set views c.args.link c.make_room.new.self) ≡ lines_of views = lines_of-same views c.args.link c.index_mut.result.now c.make_room.new.self (c.make_room.ensures.line ∙ ap (λ v. v.line) c.index_mut.ensures.value) in
    marked-same views (set views c.args.link c.make_room.new.self) c.self.inside.filled same c.self.invariant

pub returns-clause-lines : goal.returns-clause-lines
returns-clause-lines g c =
    lines_of-same c.self.inside.lines.items c.args.link c.index_mut.result.now c.make_room.new.self (c.make_room.ensures.line ∙ ap (λ v. v.line) c.index_mut.ensures.value) ∙ ap lines_of c.self.view_is
