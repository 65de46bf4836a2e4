use Rattle.std.proofs.Common.{◌≡◌, ℕ, refl, ap, ◌∙◌, arith, take, get_or}
use Rattle.std.proofs.lemmas.List.{take_all}
use Rattle.sl_layout.specs.Net.{actor_of}
use Rattle.sl_model.specs.Counting.{bad, expired, noroute}
use Rattle.sl_layout.specs.Devices.{device_of}
use Rattle.sl_model.specs.History.{history}
use Rattle.sl_model.specs.Words.{weigh}
use Rattle.sl_model.specs.declared.findings.Drops.{Drops}
use Rattle.sl_cut.proofs.Judging.{counted, steps, whole, room, weigh_next}
use Rattle.sl_cut.proofs.gather.drops_of.Goals as goal

drops-same : (d : Drops) (b e n : ℕ) → d.bad ≡ b → d.expired ≡ e → d.noroute ≡ n → d ≡ record { bad = b; expired = e; noroute = n }
drops-same d b e n p q r = rw (← p, ← q, ← r) refl

pub overflow_add-drops : goal.overflow_add-drops
overflow_add-drops c =
    let k = room c.worlds_take_turns.ensures c.args.net.now c.args.world.now c.unit_actors-unit-items.result.now c.loop-unit.unit-index c.unit_actors-unit-items.ensures.actors c.requires.actors c.requires.small c.loop-unit-test.true in
    omega (arith, k, c.loop-unit.invariant.few_bad, c.drops_at-more.ensures.few_bad)

pub overflow_add-drops-in-loop-unit : goal.overflow_add-drops-in-loop-unit
overflow_add-drops-in-loop-unit c =
    let k = room c.worlds_take_turns.ensures c.args.net.now c.args.world.now c.unit_actors-unit-items.result.now c.loop-unit.unit-index c.unit_actors-unit-items.ensures.actors c.requires.actors c.requires.small c.loop-unit-test.true in
    omega (arith, k, c.loop-unit.invariant.few_expired, c.drops_at-more.ensures.few_expired)

pub overflow_add-drops-in-loop-unit-2 : goal.overflow_add-drops-in-loop-unit-2
overflow_add-drops-in-loop-unit-2 c =
    let k = room c.worlds_take_turns.ensures c.args.net.now c.args.world.now c.unit_actors-unit-items.result.now c.loop-unit.unit-index c.unit_actors-unit-items.ensures.actors c.requires.actors c.requires.small c.loop-unit-test.true in
    omega (arith, k, c.loop-unit.invariant.few_noroute, c.drops_at-more.ensures.few_noroute)

pub loop-unit-preserved : goal.loop-unit-preserved
loop-unit-preserved c =
    let net = c.args.net.now in let w = c.args.world.now in let us = c.unit_actors-unit-items.result.now in let i = c.loop-unit.unit-index in
    let b = λ (u : ℕ). bad (history w u) in let e = λ (u : ℕ). expired (history w u) in let n = λ (u : ℕ). noroute net.parts (device_of (actor_of net u)) (history w u) in
    let next = λ (f : ℕ → ℕ). weigh_next (counted net f) us i 0 (get_or us i 0) c.loop-unit-test.true refl in
    let more = next (steps w) in
    record {
      bad = omega (arith, next b, c.loop-unit.invariant.bad, c.drops_at-more.ensures.bad);
      expired = omega (arith, next e, c.loop-unit.invariant.expired, c.drops_at-more.ensures.expired);
      noroute = omega (arith, next n, c.loop-unit.invariant.noroute, c.drops_at-more.ensures.noroute);
      few_bad = omega (arith, more, c.loop-unit.invariant.few_bad, c.drops_at-more.ensures.few_bad);
      few_expired = omega (arith, more, c.loop-unit.invariant.few_expired, c.drops_at-more.ensures.few_expired);
      few_noroute = omega (arith, more, c.loop-unit.invariant.few_noroute, c.drops_at-more.ensures.few_noroute);
    }

pub returns : goal.returns
returns c =
    let net = c.args.net.now in let w = c.args.world.now in let us = c.unit_actors-unit-items.result.now in
    let all : take c.loop-unit.unit-index us ≡ us = take_all c.loop-unit.unit-index us (omega arith) in
    let sum = λ (f : ℕ → ℕ). ap (weigh (counted net f)) all ∙ whole net f us c.unit_actors-unit-items.ensures.actors in
    drops-same c.loop-unit.drops _ _ _ (c.loop-unit.invariant.bad ∙ sum (λ u. bad (history w u))) (c.loop-unit.invariant.expired ∙ sum (λ u. expired (history w u)))
    (c.loop-unit.invariant.noroute ∙ sum (λ u. noroute net.parts (device_of (actor_of net u)) (history w u)))
