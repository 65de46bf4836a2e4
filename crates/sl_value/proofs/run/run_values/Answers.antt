use Rattle.std.proofs.Common.{◌≡◌, ℕ, List, map, sym, ap, subst, ◌∙◌}
use Rattle.std.specs.List.{All, range_with_len}
use Rattle.std.proofs.lemmas.List.{length-map}
use Rattle.sl_machine.specs.declared.wiring.Entry.{Entry}
use Rattle.sl_net.specs.Input.{Input}
use Rattle.sl_model.specs.declared.findings.Findings.{Findings}
use Rattle.sl_model.specs.Books.{schedule_of}
use Rattle.sl_model.specs.Findings.{findings}
use Rattle.sl_model.specs.Losses.{losses}
use Rattle.sl_model.specs.Setup.{setup_of}
use Rattle.sl_model.specs.World.{world}
use Rattle.sl_value.specs.Valued.{ValueState}
use Rattle.sl_value.specs.Nodes.{plain, plain_scene, controls_in}
use Rattle.sl_value.specs.Run.{IsValueRun}
use Rattle.sl_value.specs.Verdicts.{value_finding}
use Rattle.sl_value.specs.Controls.{AreControls, IsAnswered}
use Rattle.sl_value.specs.Outcome.{CanList}
use Rattle.sl_value.proofs.ControlList.{are-controls}
use Rattle.sl_value.proofs.Outcomes.{can-list, answered}
use Rattle.sl_value.proofs.run.run_values.Goals as goal

pub list-requires : goal.list-requires
list-requires c =
    let i = c.args.input.now in
    let w = c.in_ok-world.world in
    let s = setup_of i in
    let es = schedule_of w.scene.book in
    let o = c.observer.result.now.state in
    let e = c.in_ok-world.ensures in
    let finished = e.book.ended.finished in
    let run : IsValueRun i w.scene = subst (λ (j : Input). IsValueRun j w.scene) e.input c.is_run.ensures in
    let can : CanList (record { scene = w.scene; input = i }) o i.snapshot.count =
    can-list i w.scene (c.nets_are_wired.ensures i.net c.requires.net) e.stands
    (c.worlds_are_in_window.ensures s (losses i) es c.requires.net) (λ k le. c.finished_verdicts_are_known.ensures s (losses i) es k c.requires.net finished le)
    (λ a state here. c.values_stand_for_histories.ensures i w.scene run e.stands c.requires.snapshot e.few a state here)
    o (c.nodes_tell_findings.ensures.rows i (losses i) (plain_scene w.scene) o e.stands c.observer.ensures)
    (c.nodes_tell_findings.ensures.told i (losses i) (plain_scene w.scene) o e.stands c.observer.ensures e.few finished) in
    subst (λ (n : ℕ). CanList w o n) (sym (ap (λ (j : Input). j.snapshot.count) c.input.view_is))
    (subst (λ (j : Input). CanList (record { scene = w.scene; input = j }) o i.snapshot.count) (sym e.input) can)

pub returns-clause-list : goal.returns-clause-list
returns-clause-list c =
    let i = c.args.input.now in
    let w = c.in_ok-world.world in
    c.in-Ok.ensures
    ∙ ap (λ (j : Input). map (value_finding j.net (world (setup_of j) (losses j) (schedule_of w.scene.book))) (range_with_len 1 c.input.inside.snapshot.count)) c.in_ok-world.ensures.input
    ∙ ap (λ (j : Input). map (value_finding i.net (world (setup_of i) (losses i) (schedule_of w.scene.book))) (range_with_len 1 j.snapshot.count)) c.input.view_is
    ∙ ap (λ (b : List Entry). map (value_finding i.net (world (setup_of i) (losses i) (schedule_of b))) (range_with_len 1 i.snapshot.count)) (sym c.into_parts-nodes.ensures.book)

-- what the nodes tell of hosts, for the book that is left
left : {A : Type 0} (of : Findings → A) (i : Input) (tells : Findings) (before after : List Entry) (told : A) → told ≡ of tells → tells ≡ findings (setup_of i) (losses i) (schedule_of before) → after ≡ before
    → told ≡ of (findings (setup_of i) (losses i) (schedule_of after))
left of i tells before after told here is same = here ∙ ap of is ∙ ap (λ (b : List Entry). of (findings (setup_of i) (losses i) (schedule_of b))) (sym same)

pub returns-clause-sent : goal.returns-clause-sent
returns-clause-sent c = let i = c.args.input.now in let w = c.in_ok-world.world in let e = c.in_ok-world.ensures in
    left (λ f. f.sent) i _ w.scene.book _ _ c.in-Ok-count_traffic.ensures.sent
    (c.nodes_tell_findings.ensures.told i (losses i) (plain_scene w.scene) c.observer.result.now.state e.stands c.observer.ensures e.few e.book.ended.finished) c.into_parts-nodes.ensures.book

pub returns-clause-delivered : goal.returns-clause-delivered
returns-clause-delivered c = let i = c.args.input.now in let w = c.in_ok-world.world in let e = c.in_ok-world.ensures in
    left (λ f. f.delivered) i _ w.scene.book _ _ c.in-Ok-count_traffic.ensures.delivered
    (c.nodes_tell_findings.ensures.told i (losses i) (plain_scene w.scene) c.observer.result.now.state e.stands c.observer.ensures e.few e.book.ended.finished) c.into_parts-nodes.ensures.book

pub returns-clause-answered : goal.returns-clause-answered
returns-clause-answered c =
    let i = c.args.input.now in
    let w = c.in_ok-world.world in
    let s = setup_of i in
    let es = schedule_of w.scene.book in
    let e = c.in_ok-world.ensures in
    let run : IsValueRun i w.scene = subst (λ (j : Input). IsValueRun j w.scene) e.input c.is_run.ensures in
    let list : c.in-Ok.list ≡ map (value_finding i.net (world s (losses i) es)) (range_with_len 1 i.snapshot.count) =
    c.in-Ok.ensures
    ∙ ap (λ (j : Input). map (value_finding j.net (world (setup_of j) (losses j) es)) (range_with_len 1 c.input.inside.snapshot.count)) e.input
    ∙ ap (λ (j : Input). map (value_finding i.net (world s (losses i) es)) (range_with_len 1 j.snapshot.count)) c.input.view_is in
    let controls : map (λ x. x.state) c.in_ok-controls.controls.items ≡ controls_in w.scene.states =
    c.in_ok-controls.ensures ∙ ap controls_in c.into_parts-nodes.ensures.nodes in
    subst (λ (cs : List ValueState). All (IsAnswered i.net cs) c.in-Ok.list) (sym controls)
    (subst (All (IsAnswered i.net (controls_in w.scene.states))) (sym list)
    (answered i w.scene (c.nets_are_wired.ensures i.net c.requires.net) e.stands
    (c.worlds_are_in_window.ensures s (losses i) es c.requires.net)
    (λ k le. c.finished_verdicts_are_known.ensures s (losses i) es k c.requires.net e.book.ended.finished le)
    (λ a state here. c.values_stand_for_histories.ensures i w.scene run e.stands c.requires.snapshot e.few a state here) c.requires.net i.snapshot.count))

pub returns-clause-controls : goal.returns-clause-controls
returns-clause-controls c =
    let i = c.args.input.now in
    let w = c.in_ok-world.world in
    let e = c.in_ok-world.ensures in
    let run : IsValueRun i w.scene = subst (λ (j : Input). IsValueRun j w.scene) e.input c.is_run.ensures in
    let controls : map (λ x. x.state) c.in_ok-controls.controls.items ≡ controls_in w.scene.states =
    c.in_ok-controls.ensures ∙ ap controls_in c.into_parts-nodes.ensures.nodes in
    subst (λ (b : List Entry). AreControls i b (map (λ x. x.state) c.in_ok-controls.controls.items)) (sym c.into_parts-nodes.ensures.book)
    (subst (AreControls i w.scene.book) (sym controls)
    (are-controls i w.scene.book w.scene.states c.requires.net (c.nets_are_wired.ensures i.net c.requires.net)
    (sym (length-map w.scene.states plain) ∙ e.stands.image.states_each)
    (λ a state here. c.values_stand_for_histories.ensures i w.scene run e.stands c.requires.snapshot e.few a state here)))
