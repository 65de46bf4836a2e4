use Rattle.std.proofs.Common.{◌∙◌, ◌≡◌, ℕ, List, ap, sym, refl, subst, map, get_or, length, ◌<◌}
use Rattle.sl_world.specs.Looked.{entry_of, step_at}
use Rattle.sl_world.specs.declared.looked.Step.{Step}
use Rattle.sl_world.proofs.LookupLemmas.{looked_next, alone, alone_more}
use Rattle.sl_world.proofs.links.Links.look_up.Goals as goal

pub loop-actor-preserved : goal.loop-actor-preserved
loop-actor-preserved g c =
    let plan = c.args.self.now.plan in
    record {
      entries = ap (map entry_of) c.in_ok-push.ensures.items ∙ looked_next plan c.args.schedule.now c.loop-actor.steps.items c.loop-actor.actor-index _ c.loop-actor-test.true c.loop-actor.invariant.entries (ap (λ (n : ℕ). (get_or c.args.schedule.now c.loop-actor.actor-index (0, 0), n)) c.in_ok-look_up_one.ensures);
      alone = subst (λ (steps : List Step). (k : ℕ) → k < length steps → (step_at steps k).run ≡ 1) (sym c.in_ok-push.ensures.items) (alone_more c.loop-actor.steps.items _ c.loop-actor.invariant.alone refl);
    }

pub join-requires : goal.join-requires
join-requires g c = alone c.loop-actor.steps.items c.loop-actor.invariant.alone
