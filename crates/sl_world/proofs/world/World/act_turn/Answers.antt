use Rattle.std.proofs.Common.{◌∙◌, ◌∷◌, ◌++◌, [], ap, sym, set, map, length, slice_get, Some, None, arith, refl, subst, ℕ, ◌+◌, ◌<◌, get_or}
use Rattle.std.proofs.lemmas.Bool.{OnTrue_at, OnFalse_at}
use Rattle.std.proofs.lemmas.List.{length-map, get_or_read}
use Rattle.sl_world.specs.Scene.{put_all, entry_after}
use Rattle.sl_world.specs.World.{scene}
use Rattle.sl_world.specs.Resting.{AreResting}
use Rattle.sl_world.proofs.BookLaws.{low_noted, last_low}
use Rattle.sl_world.proofs.TurnLemmas.{some_at, acted, done_is, same_is}
use Rattle.sl_world.proofs.RestLemmas.{not_resting, rests}
use Rattle.sl_world.proofs.RunLemmas.{was_idle, was_done, refused}
use Rattle.sl_world.proofs.world.World.act_turn.Goals as goal

pub returns-then-index-action : goal.returns-then-index-action
returns-then-index-action g c =
    let w = c.args.self.now in
    let states = map g.A.Machine.state w.machines.items in
    let here = some_at states c.args.actor (omega (arith, length-map w.machines.items g.A.Machine.state, length-map w.machines.items (λ a. (g.A.Machine.counts a).ins), ap length w.machines_fit.ins_are, c.requires.choice.actor_below)) in
    let low : c.args.actor < length w.resting.items = omega (arith, w.rests.each, length-map w.machines.items g.A.Machine.state, length-map w.machines.items (λ a. (g.A.Machine.counts a).ins), ap length w.machines_fit.ins_are, c.requires.choice.actor_below) in
    let n = c.index.result.now in
    let told = sym (get_or_read w.resting.items c.args.actor n low (c.index.ensures ∙ ap (λ v. get_or v.resting.items c.args.actor n) c.self.view_is) 0) ∙ (c.if-index-action.true ∙ ap (λ (i : ℕ). i + 1) c.from-action.ensures) in
    was_idle g.A.Machine.rules c.args.actor c.args.choice (scene w) (scene w)
    (acted g.A.Machine.rules (scene w) c.args.actor c.args.choice here.0 None c.requires.none here.1 (rests g.A.Machine.rules states w.resting.items c.args.actor c.args.choice here.0 w.rests here.1 told))
    refl

pub returns-then-not-act_at : goal.returns-then-not-act_at
returns-then-not-act_at g c =
    let w = c.args.self.now in
    let here = some_at (map g.A.Machine.state w.machines.items) c.args.actor (omega (arith, length-map w.machines.items g.A.Machine.state, length-map w.machines.items (λ a. (g.A.Machine.counts a).ins), ap length w.machines_fit.ins_are, c.requires.choice.actor_below)) in
    let same_states = c.prepare.ensures.states ∙ ap (λ v. map g.A.Machine.state v.machines.items) c.self.view_is in
    let state = ap (λ xs. slice_get xs c.args.actor) same_states ∙ here.1 in
    was_idle g.A.Machine.rules c.args.actor c.args.choice (scene w) _
    (acted g.A.Machine.rules (scene w) c.args.actor c.args.choice here.0 None c.requires.none here.1 (OnFalse_at c.if-not-act_at.true (c.act_at.ensures.idle here.0 state)))
    (same_is (scene w) _ _ _ _
    (c.prepare.ensures.plan ∙ ap (λ v. v.links.plan) c.self.view_is)
    (OnFalse_at c.if-not-act_at.true c.act_at.ensures.same ∙ same_states)
    (c.prepare.ensures.lines ∙ ap (λ v. v.links.lines) c.self.view_is)
    (c.in_ok-make_room.ensures.entries ∙ ap (λ v. v.book.entries) c.self.view_is))

pub returns : goal.returns
returns g c =
    let w = c.args.self.now in
    let here = some_at (map g.A.Machine.state w.machines.items) c.args.actor (omega (arith, length-map w.machines.items g.A.Machine.state, length-map w.machines.items (λ a. (g.A.Machine.counts a).ins), ap length w.machines_fit.ins_are, c.requires.choice.actor_below)) in
    let same_states = c.prepare.ensures.states ∙ ap (λ v. map g.A.Machine.state v.machines.items) c.self.view_is in
    let state = ap (λ xs. slice_get xs c.args.actor) same_states ∙ here.1 in
    let act = OnTrue_at c.if-not-act_at.false (c.act_at.ensures.did here.0 state) in
    let plan = c.prepare.ensures.plan ∙ ap (λ v. v.links.plan) c.self.view_is in
    let lines = c.prepare.ensures.lines ∙ ap (λ v. v.links.lines) c.self.view_is in
    let same_book = c.in_ok-make_room.ensures.entries ∙ ap (λ v. v.book.entries) c.self.view_is in
    was_done g.A.Machine.rules c.args.actor c.args.choice (scene w) _
    (acted g.A.Machine.rules (scene w) c.args.actor c.args.choice here.0 (Some (record { state = act.0; puts = c.act_at.new.out.items })) c.requires.none here.1 act.2
    ∙ ap Some (done_is (scene w) c.args.actor c.args.choice w.links.lines (record { state = act.0; puts = c.act_at.new.out.items }) _ _ _ _
    (c.deliver.ensures.plan ∙ plan)
    (act.1 ∙ ap (λ xs. set xs c.args.actor act.0) same_states)
    (c.deliver.ensures.lines ∙ (ap (λ p. put_all p.links c.args.actor c.act_at.new.out.items c.prepare.new.links.lines) plan ∙ ap (put_all w.links.plan.links c.args.actor c.act_at.new.out.items) lines))
    (c.note.ensures ∙ ap (λ es. es ++ entry_after es c.args.actor c.args.choice ∷ []) same_book)))

pub returns-in_err-prepare : goal.returns-in_err-prepare
returns-in_err-prepare g c =
    let w = c.args.self.now in
    refused g.A.Machine.rules c.args.actor c.args.choice c.from_residual.result (scene w) _ c.from_residual.ensures.0
    (same_is (scene w) _ _ _ _
    (c.prepare.ensures.plan ∙ ap (λ v. v.links.plan) c.self.view_is)
    (c.prepare.ensures.states ∙ ap (λ v. map g.A.Machine.state v.machines.items) c.self.view_is)
    (c.prepare.ensures.lines ∙ ap (λ v. v.links.lines) c.self.view_is)
    (ap (λ v. v.book.entries) c.self.view_is))

pub returns-in_err-make_room : goal.returns-in_err-make_room
returns-in_err-make_room g c =
    let w = c.args.self.now in
    refused g.A.Machine.rules c.args.actor c.args.choice c.from_residual-in_err-make_room.result (scene w) _ c.from_residual-in_err-make_room.ensures.0
    (same_is (scene w) _ _ _ _
    (c.prepare.ensures.plan ∙ ap (λ v. v.links.plan) c.self.view_is)
    (c.prepare.ensures.states ∙ ap (λ v. map g.A.Machine.state v.machines.items) c.self.view_is)
    (c.prepare.ensures.lines ∙ ap (λ v. v.links.lines) c.self.view_is)
    (c.make_room.ensures.entries ∙ ap (λ v. v.book.entries) c.self.view_is))

pub invariant_of-self-inside-2-clause-rests : goal.invariant_of-self-inside-2-clause-rests
invariant_of-self-inside-2-clause-rests g c =
    let w = c.args.self.now in
    let states = map g.A.Machine.state w.machines.items in
    let low : c.args.actor < length states = omega (arith, length-map w.machines.items g.A.Machine.state, length-map w.machines.items (λ a. (g.A.Machine.counts a).ins), ap length w.machines_fit.ins_are, c.requires.choice.actor_below) in
    let here = some_at states c.args.actor low in
    let same_states = c.prepare.ensures.states ∙ ap (λ v. map g.A.Machine.state v.machines.items) c.self.view_is in
    let state = ap (λ xs. slice_get xs c.args.actor) same_states ∙ here.1 in
    let act = OnTrue_at c.if-not-act_at.false (c.act_at.ensures.did here.0 state) in
    subst (AreResting g.A.Machine.rules (map g.A.Machine.state c.act_at.new.machines.items)) (sym (c.note_rest-2.ensures ∙ ap (λ v. set v.resting.items c.args.actor 0) c.self.view_is))
    (not_resting g.A.Machine.rules states (map g.A.Machine.state c.act_at.new.machines.items) w.resting.items c.args.actor act.0 w.rests
    (act.1 ∙ ap (λ xs. set xs c.args.actor act.0) same_states) low)

pub invariant_of-self-inside-2-clause-space : goal.invariant_of-self-inside-2-clause-space
invariant_of-self-inside-2-clause-space g c = λ k.
    rw (c.deliver.ensures.plan ∙ (c.prepare.ensures.plan ∙ ap (λ v. v.links.plan) c.self.view_is), c.deliver.ensures.room ∙ (c.act_at.ensures.room ∙ ap (λ v. v.out.room) c.self.view_is)) (c.args.self.now.space k)

pub invariant_of-self-inside-2-clause-low : goal.invariant_of-self-inside-2-clause-low
invariant_of-self-inside-2-clause-low g c = low_noted _ _ _ c.args.actor c.args.choice (c.in_ok-make_room.ensures.entries ∙ ap (λ v. v.book.entries) c.self.view_is) c.note.ensures c.args.self.now.low

pub invariant_of-self-inside-2-clause-numbered : goal.invariant_of-self-inside-2-clause-numbered
invariant_of-self-inside-2-clause-numbered g c = last_low c.note.new.entries.items (length c.note.new.entries.items) (invariant_of-self-inside-2-clause-low g c)
