use Rattle.std.proofs.Common.{◌≡◌, ◌∙◌, sym, ap, subst, length, List, Option, map}
use Rattle.sl_machine.specs.Plan.{Plan}
use Rattle.sl_machine.specs.declared.wiring.Link.{Link}
use Rattle.sl_link.specs.Ends.{TakeView}
use Rattle.sl_link.specs.declared.ends.Stamped.{Stamped}
use Rattle.sl_actor.specs.declared.part.OutPart.{OutPart}
use Rattle.sl_actor.specs.Rows.{AreSuch}
use Rattle.sl_actor.specs.Made.{FitRows, AreJoined, IsNewEnd, IsNewPart}
use Rattle.sl_actor.proofs.RowLemmas.{empty_shape, empty_such}
use Rattle.sl_actor.proofs.MakeLemmas.{rows_fit}
use Rattle.sl_actor.proofs.make.joined_rows.Goals as goal

pub join_all-requires-clause-fit : goal.join_all-requires-clause-fit
join_all-requires-clause-fit g c =
    let takes : map length c.in_ok-takes.takes.items ≡ c.args.wiring.now.ins = ap (map length) c.in_ok-takes.ensures ∙ empty_shape _ c.as_slice.result.now ∙ c.as_slice.ensures.value ∙ ap (λ (p : Plan). p.ins) c.wiring.view_is in
    let outs : map length c.in_ok-outs.outs.items ≡ c.args.wiring.now.outs = ap (map length) c.in_ok-outs.ensures ∙ empty_shape _ c.as_slice-2.result.now ∙ c.as_slice-2.ensures.value ∙ ap (λ (p : Plan). p.outs) c.wiring.view_is in
    let links : c.as_slice-links.result.now ≡ c.args.wiring.now.links = c.as_slice-links.ensures.value ∙ ap (λ (p : Plan). p.links) c.wiring.view_is in
    subst (λ (l : List Link). FitRows l (map length c.in_ok-takes.takes.items) (map length c.in_ok-outs.outs.items)) (sym links) (rows_fit c.args.wiring.now _ _ c.requires.sound takes outs)

pub join_all-requires-clause-ends : goal.join_all-requires-clause-ends
join_all-requires-clause-ends g c = subst (λ (l : List (List (Option (TakeView (Stamped g.row.M.Denot))))). AreSuch IsNewEnd l) (sym c.in_ok-takes.ensures) (empty_such IsNewEnd c.as_slice.result.now)

pub join_all-requires-clause-parts : goal.join_all-requires-clause-parts
join_all-requires-clause-parts g c = subst (λ (l : List (List (Option (OutPart g.row.M.Denot)))). AreSuch IsNewPart l) (sym c.in_ok-outs.ensures) (empty_such IsNewPart c.as_slice-2.result.now)

pub join_all-requires-clause-losses : goal.join_all-requires-clause-losses
join_all-requires-clause-losses g c =
    let links : c.as_slice-links.result.now ≡ c.args.wiring.now.links = c.as_slice-links.ensures.value ∙ ap (λ (p : Plan). p.links) c.wiring.view_is in
    c.requires.losses ∙ ap length (sym links)

pub returns-clause-takes : goal.returns-clause-takes
returns-clause-takes g c = c.join_all.ensures.takes ∙ ap (map length) c.in_ok-takes.ensures ∙ empty_shape _ c.as_slice.result.now ∙ c.as_slice.ensures.value ∙ ap (λ (p : Plan). p.ins) c.wiring.view_is

pub returns-clause-outs : goal.returns-clause-outs
returns-clause-outs g c = c.join_all.ensures.outs ∙ ap (map length) c.in_ok-outs.ensures ∙ empty_shape _ c.as_slice-2.result.now ∙ c.as_slice-2.ensures.value ∙ ap (λ (p : Plan). p.outs) c.wiring.view_is

pub returns-clause-ends : goal.returns-clause-ends
returns-clause-ends g c = c.join_all.ensures.ends

pub returns-clause-parts : goal.returns-clause-parts
returns-clause-parts g c = c.join_all.ensures.parts

pub returns-clause-joined : goal.returns-clause-joined
returns-clause-joined g c =
    let links : c.as_slice-links.result.now ≡ c.args.wiring.now.links = c.as_slice-links.ensures.value ∙ ap (λ (p : Plan). p.links) c.wiring.view_is in
    subst (λ (l : List Link). AreJoined l c.args.losses.items c.args.capacity (length l) c.join_all.new.takes.items c.join_all.new.outs.items) links c.in_ok-join_all.ensures.joined
