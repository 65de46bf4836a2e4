use Rattle.std.proofs.Common.{Vec, Global, ℕ, ◌∙◌, sym, refl}
use Rattle.thread_tests.proofs.RingLemmas.{ring_sound, ring_fits, ring_plans}
use Rattle.thread_tests.proofs.tests.machines.run_ring.Goals as goal

pub run_machines-requires-clause-fit : goal.run_machines-requires-clause-fit
run_machines-requires-clause-fit g c = λ _ _. record {
  sound = ring_sound c.args.count c.args.wiring.now (c.ranges.count.fits) c.requires.ring;
  machines_fit = ring_fits _ c.args.wiring.now c.in_ok-machines.machines.items c.args.count (λ x. refl) c.in_ok-machines.ensures.each c.requires.ring;
  losses_fit = c.in_ok-losses.ensures.length ∙ sym c.requires.ring.links.each;
}

pub run_machines-requires-clause-plans : goal.run_machines-requires-clause-plans
run_machines-requires-clause-plans g c = λ _ _. ring_plans _ (λ (p : Vec ℕ Global). p.items) c.in_ok-machines.machines.items c.in_ok-plans.plans.items (λ x. refl) (c.in_ok-plans.ensures.each ∙ sym c.in_ok-machines.ensures.each) c.in_ok-plans.ensures.alike
