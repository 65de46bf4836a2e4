use Rattle.std.proofs.Common.{◌≡◌, ◌↔◌, [], ap, set, subst, true}
use Rattle.std.specs.Prelude.{IsTrue}
use Rattle.sl_world.specs.Mesh.{lines_of, KeepsSomeRoom}
use Rattle.sl_world.proofs.MeshLemmas.{taken_from}
use Rattle.sl_world.proofs.MarkLemmas.{below_too, marked-written, marked-left}
use Rattle.sl_world.proofs.RoomLemmas.{some_room_set}
use Rattle.sl_world.proofs.marked_lines.MarkedLines.take.Goals as goal

pub invariant_of-self : goal.invariant_of-self
invariant_of-self g c =
    marked-written c.self.inside.lines.items _ c.self.inside.filled c.write.new.self c.args.link c.take-m.new.self true c.self.view_is c.requires.link c.self.invariant (record { same = c.write.ensures.same; others = c.write.ensures.others; room = c.write.ensures.room }) (subst (λ empty. IsTrue empty ↔ (c.take-m.new.self.line.queue ≡ [])) c.if-is_empty.true c.is_empty.ensures)

pub invariant_of-self-else-is_empty : goal.invariant_of-self-else-is_empty
invariant_of-self-else-is_empty g c =
    marked-left c.self.inside.lines.items _ c.self.inside.filled c.args.link c.index_mut-line.result.now c.take-m.new.self c.take-m.result c.is_empty.result c.self.view_is c.requires.link c.self.invariant c.index_mut-line.ensures.value c.take-m.ensures.queue c.if-is_empty.false c.is_empty.ensures

pub returns-then-is_empty-clause-rest : goal.returns-then-is_empty-clause-rest
returns-then-is_empty-clause-rest g c =
    taken_from c.self.inside.lines.items (lines_of c.args.self.now) c.args.link c.index_mut-line.result.now c.take-m.new.self c.take-m.result (ap lines_of c.self.view_is) (below_too _ _ _ c.self.view_is c.requires.link) c.index_mut-line.ensures.value c.take-m.ensures.queue c.take-m.ensures.line

pub returns-else-is_empty-clause-rest : goal.returns-else-is_empty-clause-rest
returns-else-is_empty-clause-rest g c =
    taken_from c.self.inside.lines.items (lines_of c.args.self.now) c.args.link c.index_mut-line.result.now c.take-m.new.self c.take-m.result (ap lines_of c.self.view_is) (below_too _ _ _ c.self.view_is c.requires.link) c.index_mut-line.ensures.value c.take-m.ensures.queue c.take-m.ensures.line

pub returns-then-is_empty-clause-keeps : goal.returns-then-is_empty-clause-keeps
returns-then-is_empty-clause-keeps g c =
    subst (λ views. KeepsSomeRoom views (set c.self.inside.lines.items c.args.link c.take-m.new.self)) c.self.view_is (some_room_set c.self.inside.lines.items c.args.link c.index_mut-line.result.now c.take-m.new.self (below_too _ _ _ c.self.view_is c.requires.link) c.index_mut-line.ensures.value c.take-m.ensures.room)
