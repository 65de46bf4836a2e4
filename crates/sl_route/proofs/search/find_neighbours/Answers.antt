use Rattle.std.proofs.lemmas.Grind.{common_steps}
use Rattle.std.proofs.Common.{◌+◌, get_or, take, arith}
use Rattle.std.specs.Prelude.{◌==◌}
use Rattle.std.specs.List.{list_any}
use Rattle.std.proofs.lemmas.List.Folds.{list_any_more}
use Rattle.sl_route.specs.declared.neighbours.Neighbour.{Neighbour}
use Rattle.sl_route.proofs.Finding.{finds-more}
use Rattle.sl_route.proofs.search.find_neighbours.Goals as goal

abbrev none : Neighbour
none = record { port = 0; device = 0 }

pub loop-neighbour-preserved : goal.loop-neighbour-preserved
loop-neighbour-preserved c =
    let ks = c.args.neighbours.now in
    let i = c.loop-neighbour.neighbour-index in
    finds-more c.args.hops (λ d. list_any (λ (k : Neighbour). k.device == d) (take i ks)) (λ d. (get_or ks i none).device == d) (λ d. list_any (λ (k : Neighbour). k.device == d) (take (i + 1) ks))
    _ _ _ _ _ _ c.loop-neighbour.invariant c.in_ok-find.ensures (λ d. list_any_more (λ (k : Neighbour). k.device == d) ks i none c.loop-neighbour-test.true)

pub returns : goal.returns
returns c = grind (arith, common_steps)

pub loop-neighbour-init : goal.loop-neighbour-init
loop-neighbour-init c = grind (arith, common_steps)
