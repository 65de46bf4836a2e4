use Rattle.std.proofs.Common.{◌≡◌, suc, ◌+◌, ◌-◌, [], length, sym, subst, arith}
use Rattle.std.specs.List.{list_any}
use Rattle.sl_route.specs.Graph.{leads, Finds}
use Rattle.sl_route.proofs.Finding.{begun, searched-none, searched-more, IsSearched}
use Rattle.sl_route.proofs.search.distances.Goals as goal

pub loop-hops-init : goal.loop-hops-init
loop-hops-init c =
    let g = c.args.table.now in
    let e = c.args.device in
    subst (λ far. IsSearched g e 0 far c.in_ok-last.last.items) (sym c.in_ok-far.ensures)
    (subst (λ last. IsSearched g e 0 (begun (length g) e) last) (sym c.in_ok-last.ensures.items) (searched-none g e c.requires.within))

pub loop-hops-preserved : goal.loop-hops-preserved
loop-hops-preserved c =
    let g = c.args.table.now in
    let e = c.args.device in
    let n = c.loop-hops.hops - 1 in
    let h : c.loop-hops.hops ≡ suc n = omega arith in
    let k : c.loop-hops.hops + 1 - 1 ≡ suc n = omega arith in
    let far = c.loop-hops.far.items in
    let new = c.advance.new.far.items in
    let next = c.in_ok-last-2.last.items in
    let finds : Finds c.loop-hops.hops (λ d. list_any (λ x. leads g x d) c.loop-hops.last.items) far new [] next =
    subst (λ ls. Finds c.loop-hops.hops (λ d. list_any (λ x. leads g x d) ls) far new [] next) c.deref.ensures.value c.in_ok-last-2.ensures in
    subst (λ m. IsSearched g e m new next) (sym k)
    (searched-more g e n far new c.loop-hops.last.items next c.requires.graph c.loop-hops.invariant (subst (λ m. Finds m (λ d. list_any (λ x. leads g x d) c.loop-hops.last.items) far new [] next) h finds))
