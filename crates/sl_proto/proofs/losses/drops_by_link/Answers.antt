use Rattle.std.proofs.Common.{◌≡◌, ◌++◌, ◌∷◌, [], ◌+◌, ap, sym, subst, ◌∙◌, take, set, get_or, map}
use Rattle.sl_parts.specs.Parts.{below}
use Rattle.sl_net.specs.declared.input.Drop1.{Drop1}
use Rattle.sl_proto.proofs.Fresh.{drops_of, drop-added}
use Rattle.sl_proto.proofs.losses.drops_by_link.Goals as goal

pub loop-drop-preserved : goal.loop-drop-preserved
loop-drop-preserved c =
    let i = c.loop-drop.drop-index in
    let ds = c.deref-drop-items.result.now in
    let same : ds ≡ c.args.loss.now.drops = c.deref-drop-items.ensures.value ∙ ap (λ l. l.drops) c.loss.view_is in
    let so_far : c.loop-drop.lists.items ≡ map (drops_of (take i ds)) (below c.args.count) = subst (λ xs. c.loop-drop.lists.items ≡ map (drops_of (take i xs)) (below c.args.count)) (sym same) c.loop-drop.invariant in
    let d : Drop1 = record { link = 0; n = 0 } in
    c.in_ok-add_drop.ensures ∙ ap (λ xs. set xs (get_or ds i d).link (get_or xs (get_or ds i d).link [] ++ (get_or ds i d).n ∷ [])) so_far
    ∙ drop-added ds c.args.count i d c.loop-drop-test.true
    ∙ ap (λ xs. map (drops_of (take (i + 1) xs)) (below c.args.count)) same
