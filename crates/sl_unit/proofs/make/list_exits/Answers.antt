use Rattle.std.proofs.Common.{◌++◌, ◌∷◌, [], ap, sym, ◌∙◌, map, take, get_or}
use Rattle.std.proofs.lemmas.List.{map-append, take_more}
use Rattle.sl_unit.specs.Made.{exit_by}
use Rattle.sl_unit.proofs.make.list_exits.Goals as goal

pub loop-number-preserved : goal.loop-number-preserved
loop-number-preserved c =
    let f = exit_by c.args.net.now in
    let numbers = c.links_from-number-items.result.now in
    let i = c.loop-number.number-index in
    let pushed = rw (c.actor.ensures.actor, c.link-link.ensures.link) at c.in_ok-push.ensures.items in
    let so_far = ap (λ exits. exits ++ f (get_or numbers i 0) ∷ []) c.loop-number.invariant in
    pushed ∙ so_far ∙ sym (ap (map f) (take_more numbers i 0 c.loop-number-test.true) ∙ map-append f (take i numbers) (get_or numbers i 0 ∷ []))
