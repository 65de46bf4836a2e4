use Rattle.std.proofs.Common.{◌≡◌, subst, length, arith}
use Rattle.sl_observe.specs.Kept.{HaveSpans, states}
use Rattle.sl_observe.proofs.UnitLists.{first_kept}
use Rattle.sl_observe.proofs.observer.Observer.new.Goals as goal

pub invariant_of-result : goal.invariant_of-result
invariant_of-result c =
    let us = c.in_ok-units.units.items in
    let size : c.len.result ≡ length us = omega (arith, c.len.ensures) in
    let spans = c.in_ok-spans.spans.items in
    let ins = length c.links_into.result.now in
    let spanned = subst (λ vs. HaveSpans (states vs) ins spans) c.as_slice.ensures.value c.in_ok-spans.ensures in
    first_kept c.args.net.now ins c.args.snapshot.now.ring c.len.result us c.in_ok-floors.floors spans c.in_ok-shorts.shorts.items c.in_ok-units.ensures size
    c.in_ok-floors.ensures spanned c.in_ok-shorts.ensures
