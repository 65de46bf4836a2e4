use Rattle.std.proofs.Common.{◌≡◌, ◌↔◌, ◌∙◌, [], ap, subst, false}
use Rattle.sl_world.specs.Scene.{line_put, put_at}
use Rattle.std.specs.Prelude.{IsTrue}
use Rattle.sl_world.specs.Mesh.{lines_of}
use Rattle.sl_world.proofs.RoomLemmas.{lines_of-put}
use Rattle.sl_world.proofs.MarkLemmas.{below_too, marked-written, marked-lost}
use Rattle.sl_world.proofs.marked_lines.MarkedLines.put.Goals as goal

pub invariant_of-self : goal.invariant_of-self
invariant_of-self g c =
    marked-written c.self.inside.lines.items _ c.self.inside.filled c.write.new.self c.args.link c.put-has_room.new.self false c.self.view_is c.requires.link c.self.invariant (record { same = c.write.ensures.same; others = c.write.ensures.others; room = c.write.ensures.room }) (subst (λ empty. IsTrue empty ↔ (c.put-has_room.new.self.line.queue ≡ [])) c.if-not-is_empty.true c.is_empty.ensures)

pub invariant_of-self-else-not-is_empty : goal.invariant_of-self-else-not-is_empty
invariant_of-self-else-not-is_empty g c =
    marked-lost c.self.inside.lines.items _ c.self.inside.filled c.args.link c.index_mut-line.result.now c.put-has_room.new.self c.args.m c.is_empty.result c.self.view_is c.requires.link c.self.invariant c.index_mut-line.ensures.value c.put-has_room.ensures.line c.if-not-is_empty.false c.is_empty.ensures

pub returns-then-not-is_empty-clause-lines : goal.returns-then-not-is_empty-clause-lines
returns-then-not-is_empty-clause-lines g c =
    lines_of-put c.self.inside.lines.items c.args.link c.index_mut-line.result.now c.put-has_room.new.self c.args.m (below_too _ _ _ c.self.view_is c.requires.link) (c.put-has_room.ensures.line ∙ ap (λ v. line_put v.line c.args.m) c.index_mut-line.ensures.value) ∙ ap (λ ls. put_at (lines_of ls) c.args.link c.args.m) c.self.view_is

pub returns-else-not-is_empty-clause-lines : goal.returns-else-not-is_empty-clause-lines
returns-else-not-is_empty-clause-lines g c =
    lines_of-put c.self.inside.lines.items c.args.link c.index_mut-line.result.now c.put-has_room.new.self c.args.m (below_too _ _ _ c.self.view_is c.requires.link) (c.put-has_room.ensures.line ∙ ap (λ v. line_put v.line c.args.m) c.index_mut-line.ensures.value) ∙ ap (λ ls. put_at (lines_of ls) c.args.link c.args.m) c.self.view_is
