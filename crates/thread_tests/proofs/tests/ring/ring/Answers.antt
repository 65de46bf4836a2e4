use Rattle.std.proofs.Common.{◌∙◌, sym, refl}
use Rattle.thread_tests.proofs.RingLemmas.{ring_sound, ring_fits}
use Rattle.thread_tests.proofs.tests.ring.ring.Goals as goal

pub make_actors-requires-clause-fit : goal.make_actors-requires-clause-fit
make_actors-requires-clause-fit c = record {
  sound = ring_sound c.args.count c.in_ok-wiring.wiring (c.ranges.count.fits) c.in_ok-wiring.ensures;
  machines_fit = ring_fits _ c.in_ok-wiring.wiring c.in_ok-machines.machines.items c.args.count (λ x. refl) c.in_ok-machines.ensures.each c.in_ok-wiring.ensures;
  losses_fit = c.in_ok-losses.ensures.length ∙ sym c.in_ok-wiring.ensures.links.each;
}
