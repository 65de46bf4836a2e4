use Rattle.std.proofs.Common.{◌∙◌, ◌<◌, ◌∷◌, ◌++◌, [], ap, sym, set, drop, map, length, slice_get, subst, Some, arith}
use Rattle.std.proofs.lemmas.List.{length-map}
use Rattle.sl_world.specs.Scene.{line_at, without_first, put_all, entry_after}
use Rattle.sl_world.specs.World.{scene}
use Rattle.sl_world.specs.Resting.{AreResting}
use Rattle.sl_world.proofs.BookLaws.{low_noted, last_low}
use Rattle.sl_world.proofs.TurnLemmas.{some_at, line_some, took, done_is}
use Rattle.sl_world.proofs.RestLemmas.{not_resting}
use Rattle.sl_world.proofs.world.World.take_from.Goals as goal

pub returns-clause-did : goal.returns-clause-did
returns-clause-did g c =
    let w = c.args.self.now in
    let states = map g.A.Machine.state w.machines.items in
    let low : c.args.actor < length states = omega (arith, length-map w.machines.items g.A.Machine.state, length-map w.machines.items (λ a. (g.A.Machine.counts a).ins), ap length w.machines_fit.ins_are, c.requires.actor) in
    let here = some_at states c.args.actor low in
    let s = here.0 in
    let same_states = c.prepare.ensures.states ∙ ap (λ v. map g.A.Machine.state v.machines.items) c.self.view_is in
    let same_plan = c.prepare.ensures.plan ∙ ap (λ v. v.links.plan) c.self.view_is in
    let same_lines = c.prepare.ensures.lines ∙ ap (λ v. v.links.lines) c.self.view_is in
    let same_book = c.in_ok-make_room.ensures.entries ∙ ap (λ v. v.book.entries) c.self.view_is in
    let state = ap (λ xs. slice_get xs c.args.actor) same_states ∙ here.1 in
    let link = c.args.link in
    let line = line_at w.links.lines link in
    let m = c.take-m.result in
    let rest = drop 1 line.queue in
    let queue = sym (ap (λ ls. (line_at ls link).queue) same_lines) ∙ (c.take-m.ensures.first ∙ ap (λ ls. m ∷ drop 1 (line_at ls link).queue) same_lines) in
    let before = set w.links.lines link (without_first line rest) in
    let a = g.A.Machine.rules.take s c.args.choice m in
    let plan = c.take-m.ensures.plan ∙ same_plan in
    let taken = c.take-m.ensures.rest ∙ ap (λ ls. set ls link (without_first (line_at ls link) (drop 1 (line_at ls link).queue))) same_lines in
    took g.A.Machine.rules (scene w) c.args.actor c.args.choice link s line m rest c.requires.link c.requires.below here.1 (line_some w.links.lines link m rest queue) queue
    ∙ ap Some (done_is (scene w) c.args.actor c.args.choice before a _ _ _ _
    (c.deliver.ensures.plan ∙ plan)
    (c.take_at.ensures.states s state ∙ ap (λ xs. set xs c.args.actor a.state) same_states)
    (c.deliver.ensures.lines
    ∙ (ap (λ p. put_all p.links c.args.actor c.take_at.new.out.items c.take-m.new.self.lines) plan
    ∙ (ap (put_all w.links.plan.links c.args.actor c.take_at.new.out.items) taken
    ∙ ap (λ ps. put_all w.links.plan.links c.args.actor ps before) (c.take_at.ensures.puts s state))))
    (c.note.ensures ∙ ap (λ es. es ++ entry_after es c.args.actor c.args.choice ∷ []) same_book))

pub invariant_of-self-inside-2-clause-rests : goal.invariant_of-self-inside-2-clause-rests
invariant_of-self-inside-2-clause-rests g c =
    let w = c.args.self.now in
    let states = map g.A.Machine.state w.machines.items in
    let low : c.args.actor < length states = omega (arith, length-map w.machines.items g.A.Machine.state, length-map w.machines.items (λ a. (g.A.Machine.counts a).ins), ap length w.machines_fit.ins_are, c.requires.actor) in
    let here = some_at states c.args.actor low in
    let same_states = c.prepare.ensures.states ∙ ap (λ v. map g.A.Machine.state v.machines.items) c.self.view_is in
    let state = ap (λ xs. slice_get xs c.args.actor) same_states ∙ here.1 in
    let t = (g.A.Machine.rules.take here.0 c.args.choice c.take-m.result).state in
    subst (AreResting g.A.Machine.rules (map g.A.Machine.state c.take_at.new.machines.items)) (sym (c.note_rest.ensures ∙ ap (λ v. set v.resting.items c.args.actor 0) c.self.view_is))
    (not_resting g.A.Machine.rules states (map g.A.Machine.state c.take_at.new.machines.items) w.resting.items c.args.actor t w.rests
    (c.take_at.ensures.states here.0 state ∙ ap (λ xs. set xs c.args.actor t) same_states) low)

pub invariant_of-self-inside-2-clause-space : goal.invariant_of-self-inside-2-clause-space
invariant_of-self-inside-2-clause-space g c = λ k.
    rw (c.deliver.ensures.plan ∙ (c.take-m.ensures.plan ∙ (c.prepare.ensures.plan ∙ ap (λ v. v.links.plan) c.self.view_is)), c.deliver.ensures.room ∙ (c.take_at.ensures.room ∙ ap (λ v. v.out.room) c.self.view_is)) (c.args.self.now.space k)

pub invariant_of-self-inside-2-clause-low : goal.invariant_of-self-inside-2-clause-low
invariant_of-self-inside-2-clause-low g c = low_noted _ _ _ c.args.actor c.args.choice (c.in_ok-make_room.ensures.entries ∙ ap (λ v. v.book.entries) c.self.view_is) c.note.ensures c.args.self.now.low

pub invariant_of-self-inside-2-clause-numbered : goal.invariant_of-self-inside-2-clause-numbered
invariant_of-self-inside-2-clause-numbered g c = last_low c.note.new.entries.items (length c.note.new.entries.items) (invariant_of-self-inside-2-clause-low g c)
