use Rattle.std.proofs.Common.{◌≤◌, ap, sym, subst, ◌∙◌, length, []}
use Rattle.std.proofs.lemmas.Result.{IfOk-weaker}
use Rattle.sl_net.specs.Input.{Input}
use Rattle.sl_model.specs.declared.findings.Findings.{Findings}
use Rattle.sl_world.specs.World.{scene}
use Rattle.sl_proto.specs.Told.{CanTell, told}
use Rattle.sl_proto.proofs.Told.{tells_it}
use Rattle.sl_proto.proofs.gather.findings_but_list.Goals as goal

pub tell-requires : goal.tell-requires
tell-requires c = let i = c.args.input.now in
    let v = scene c.args.world.now in
    let o = c.observer_of-observer.result.now.state in
    let h = c.requires.stands.1 in
    let links : length i.net.links ≤ 77888 = subst (λ (j : Input). length j.net.links ≤ 77888) c.input.view_is (subst (λ ls. length ls ≤ 77888) c.links-links.ensures.now c.links-links.ensures.few) in
    subst (λ (j : Input). CanTell j.net v o) (sym c.input.view_is) (tells_it c.worlds_take_turns.ensures i c.requires.stands.0 v h o c.observer_of-observer.ensures.observer (c.nets_are_wired.ensures i.net h.runnable.net) links c.requires.book)

pub returns : goal.returns
returns c lost h finished = let i = c.args.input.now in
    let v = scene c.args.world.now in
    let o = c.observer_of-observer.result.now.state in
    IfOk-weaker c.tell.result _ _
    (λ f e. e ∙ ap (λ (j : Input). told j.net 0 v o) c.input.view_is
    ∙ ap (λ (g : Findings). record g { list = [] }) (c.nodes_tell_findings.ensures.told i lost v o h c.observer_of-observer.ensures.observer c.requires.book finished))
    c.tell.ensures
