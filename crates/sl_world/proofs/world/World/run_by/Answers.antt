use Rattle.std.proofs.Common.{◌∙◌, ◌+◌, ◌<◌, ℕ, arith, ap, sym, refl, subst, length, get_or}
use Rattle.sl_world.specs.Scene.{links_of, after_turn}
use Rattle.sl_machine.specs.Plan.{Plan, HasChoice, link_in}
use Rattle.sl_world.specs.Looked.{step_at}
use Rattle.sl_world.specs.World.{scene}
use Rattle.sl_world.proofs.LookupLemmas.{by_links, looked_entry, looked_link, looked_most, looked_long}
use Rattle.sl_world.proofs.RunLemmas.{so_far_more, quiet_until, all_run, one_refused}
use Rattle.sl_world.proofs.world.World.run_by.Goals as goal

pub next_by-at-requires-clause-links : goal.next_by-at-requires-clause-links
next_by-at-requires-clause-links g c = looked_most (scene c.args.self.now).plan c.args.schedule.now c.steps-steps.result.now (c.steps-steps.ensures.entries ∙ c.requires.links)

pub next_by-at-requires-in-loop-at-clause-links : goal.next_by-at-requires-in-loop-at-clause-links
next_by-at-requires-in-loop-at-clause-links g c =
    let es = c.args.schedule.now in
    let steps = c.steps-steps.result.now in
    let is = c.steps-steps.ensures.entries ∙ c.requires.links in
    let low : c.loop-at.at < length es = omega (arith, c.loop-at-test.true, looked_long (scene c.args.self.now).plan es steps is) in
    let one = so_far_more g.A.Machine.rules (scene c.args.self.now) (scene c.loop-at.self) (scene c.turn_by.new.self) es c.loop-at.at low c.loop-at.invariant.front (c.in_ok-turn_by.ensures.after ∙ ap (after_turn g.A.Machine.rules (scene c.loop-at.self)) (looked_entry (scene c.args.self.now).plan es steps is c.loop-at.at low)) in
    looked_most (scene c.turn_by.new.self).plan es steps (is ∙ ap (λ p. links_of p es) (sym one.plan))

pub turn_by-requires-clause-choice : goal.turn_by-requires-clause-choice
turn_by-requires-clause-choice g c =
    let es = c.args.schedule.now in
    let is = c.steps-steps.ensures.entries ∙ c.requires.links in
    let low : c.loop-at.at < length es = omega (arith, c.loop-at-test.true, looked_long (scene c.args.self.now).plan es c.steps-steps.result.now is) in
    let e : ℕ × ℕ = get_or es c.loop-at.at (0, 0) in
    subst (λ (f : ℕ × ℕ). HasChoice (scene c.loop-at.self).plan f.0 f.1) (sym (looked_entry (scene c.args.self.now).plan es c.steps-steps.result.now is c.loop-at.at low))
    (subst (λ (p : Plan). HasChoice p e.0 e.1) (sym c.loop-at.invariant.front.plan) (c.requires.choices c.loop-at.at (0, 0) low))

pub turn_by-requires-clause-link : goal.turn_by-requires-clause-link
turn_by-requires-clause-link g c =
    let es = c.args.schedule.now in
    let plan : Plan = (scene c.args.self.now).plan in
    let steps = c.steps-steps.result.now in
    let is = c.steps-steps.ensures.entries ∙ c.requires.links in
    let low : c.loop-at.at < length es = omega (arith, c.loop-at-test.true, looked_long plan es steps is) in
    looked_link plan es steps is c.loop-at.at low
    ∙ (ap (λ (f : ℕ × ℕ). link_in plan.links f.0 f.1) (sym (looked_entry plan es steps is c.loop-at.at low))
    ∙ ap (λ (p : Plan). link_in p.links (step_at steps c.loop-at.at).actor (step_at steps c.loop-at.at).choice) (sym c.loop-at.invariant.front.plan))

pub loop-at-init : goal.loop-at-init
loop-at-init g c =
    let old = scene c.args.self.now in
    let found = c.next_by-at.ensures in
    let quiet = by_links old c.args.schedule.now c.steps-steps.result.now 0 c.next_by-at.result (c.steps-steps.ensures.entries ∙ c.requires.links) found.within found.nothing in
    record {
      within = quiet.within;
      front = quiet_until g.A.Machine.rules old old c.args.schedule.now 0 c.next_by-at.result found.from quiet.within (record { so_far = refl; plan = refl; book = omega arith }) quiet.nothing;
      some = found.some;
    }

pub loop-at-preserved : goal.loop-at-preserved
loop-at-preserved g c =
    let rules = g.A.Machine.rules in
    let es = c.args.schedule.now in
    let steps = c.steps-steps.result.now in
    let at = c.loop-at.at in
    let old = scene c.args.self.now in
    let now = scene c.turn_by.new.self in
    let next = c.next_by-at-in-loop-at in
    let is = c.steps-steps.ensures.entries ∙ c.requires.links in
    let low : at < length es = omega (arith, c.loop-at-test.true, looked_long old.plan es steps is) in
    let one = so_far_more rules old (scene c.loop-at.self) now es at low c.loop-at.invariant.front (c.in_ok-turn_by.ensures.after ∙ ap (after_turn rules (scene c.loop-at.self)) (looked_entry old.plan es steps is at low)) in
    let quiet = by_links now es steps (at + 1) next.result (is ∙ ap (λ p. links_of p es) (sym one.plan)) next.ensures.within next.ensures.nothing in
    record {
      within = quiet.within;
      front = quiet_until rules now old es (at + 1) next.result next.ensures.from quiet.within one quiet.nothing;
      some = next.ensures.some;
    }

pub returns-in_err-turn_by : goal.returns-in_err-turn_by
returns-in_err-turn_by g c =
    one_refused g.A.Machine.rules (scene c.args.self.now) (scene c.loop-at.self) (scene c.turn_by.new.self) c.args.schedule.now c.loop-at.at c.from_residual.result c.loop-at.invariant.front c.in_err-turn_by.ensures.err c.loop-at.invariant.within c.from_residual.ensures.0

pub returns : goal.returns
returns g c =
    let long = looked_long (scene c.args.self.now).plan c.args.schedule.now c.steps-steps.result.now (c.steps-steps.ensures.entries ∙ c.requires.links) in
    all_run g.A.Machine.rules (scene c.args.self.now) (scene c.loop-at.self) (scene c.loop-at.self) c.args.schedule.now c.loop-at.at _ c.loop-at.invariant.front refl (omega (arith, long, c.loop-at-test.false, c.loop-at.invariant.within))
