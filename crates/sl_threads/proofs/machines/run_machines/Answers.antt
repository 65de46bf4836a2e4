use Rattle.std.proofs.Common.{◌≡◌, ◌∙◌, ◌<◌, ◌≤◌, ℕ, List, Vec, Global, length, map, sym, subst, ap}
use Rattle.std.proofs.lemmas.List.{length-map}
use Rattle.std.proofs.lemmas.List.Sorted.{length_permutation}
use Rattle.std.proofs.lemmas.Result.{IfOk-weaker}
use Rattle.sl_actor.specs.Follows.{ActorView}
use Rattle.sl_actor.specs.Made.{EachFollows}
use Rattle.sl_actor.specs.Held.{held}
use Rattle.sl_world.specs.World.{scene}
use Rattle.sl_merge.specs.RunOfActors.{log_entries}
use Rattle.sl_threads.specs.Threads.{ArePlans}
use Rattle.sl_threads.proofs.RunLemmas.{jobs_have_run, jobs_have_passed, kept, all_follow, logs_are_short, if_both, as_many, few_all, stands_by, numbers_by, all_chosen, logs_within, at_rest}
use Rattle.sl_threads.proofs.machines.run_machines.Goals as goal

pub jobs_of-requires : goal.jobs_of-requires
jobs_of-requires g c = subst (λ l. ArePlans l (map (λ (p : Vec ℕ Global). p.items) c.args.plans.items)) (sym c.in_ok-actors.ensures.counts) c.requires.plans

pub merge-requires : goal.merge-requires
merge-requires g c =
    let olds = map held c.in_ok-actors.actors.items in
    let news = map held c.in_ok-actors-2.actors.items in
    let h = jobs_have_run g.A.Machine 134217728 c.in_ok-jobs.jobs.items c.in_ok-ran.ran.items olds news c.in_ok-jobs.ensures.actors c.in_ok-actors-2.ensures.actors c.in_ok-ran.ensures.len c.in_ok-actors-2.ensures.answers c.in_ok-ran.ensures.each _ c.in_ok-jobs.ensures.plans in
    let made = c.in_ok-actors.ensures in
    let law = c.made_actors_are_wired.ensures in
    let firsts = map g.A.Machine.state c.args.machines.items in
    let each : length firsts ≡ length olds = sym (ap length made.states) ∙ length-map olds (λ (v : ActorView g.A.Machine.State g.row.A-Msg.Denot). v.state) in
    let many : length news ≡ length c.args.machines.items = h.each ∙ sym (length-map olds (λ (v : ActorView g.A.Machine.State g.row.A-Msg.Denot). v.counts)) ∙ ap length made.counts ∙ length-map c.args.machines.items g.A.Machine.counts in
    record {
      wired = law.kept c.args.wiring.now olds news (kept g.A.Machine.rules 134217728 _ olds news h) (law.wired c.args.wiring.now c.args.machines.items c.args.losses.items 16 olds c.requires.fit made.counts made.ends made.tied);
      first = as_many g.A.Machine.state g.A.Machine.counts c.args.first.now c.args.machines.items c.args.wiring.now c.requires.first c.requires.fit.machines_fit;
      follows = subst (λ (fs : List g.A.Machine.State). EachFollows g.A.Machine.rules fs news) (sym c.requires.first) (all_follow g.A.Machine.rules 134217728 _ olds news h firsts each made.follows);
      few = few_all (length news) (length (log_entries news)) (law.few 134217728 news (logs_are_short g.A.Machine.rules 134217728 _ olds news h made.logs)) (subst (λ (n : ℕ). n ≤ 2048) (sym many) c.requires.few);
    }

pub returns : goal.returns
returns g c =
    let rules = g.A.Machine.rules in
    let plan = c.args.wiring.now in
    let plans = map (λ (p : Vec ℕ Global). p.items) c.args.plans.items in
    let olds = map held c.in_ok-actors.actors.items in
    let news = map held c.in_ok-actors-2.actors.items in
    let h = jobs_have_run g.A.Machine 134217728 c.in_ok-jobs.jobs.items c.in_ok-ran.ran.items olds news c.in_ok-jobs.ensures.actors c.in_ok-actors-2.ensures.actors c.in_ok-ran.ensures.len c.in_ok-actors-2.ensures.answers c.in_ok-ran.ensures.each plans c.in_ok-jobs.ensures.plans in
    let made = c.in_ok-actors.ensures in
    let law = c.made_actors_are_wired.ensures in
    let wired_olds = law.wired plan c.args.machines.items c.args.losses.items 16 olds c.requires.fit made.counts made.ends made.tied in
    let stays = kept rules 134217728 plans olds news h in
    let wired_news = law.kept plan olds news stays wired_olds in
    let firsts = map g.A.Machine.state c.args.machines.items in
    let losses = law.same_losses plan olds news stays wired_olds ∙ law.losses plan c.args.losses.items 16 olds wired_olds made.tied c.requires.fit.losses_fit c.requires.fresh in
    let as_made : length olds ≡ length c.args.machines.items = sym (length-map olds (λ (v : ActorView g.A.Machine.State g.row.A-Msg.Denot). v.counts)) ∙ ap length made.counts ∙ length-map c.args.machines.items g.A.Machine.counts in
    let few = few_all (length news) (length (log_entries news)) (law.few 134217728 news (logs_are_short rules 134217728 plans olds news h made.logs)) (subst (λ (n : ℕ). n ≤ 2048) (sym (h.each ∙ as_made)) c.requires.few) in
    let e = c.merge.ensures in
    record {
      run = IfOk-weaker c.merge.result _ _ (λ w x. stands_by rules plan _ firsts _ c.args.losses.items (scene w) c.requires.first losses x) e.run;
      numbers = IfOk-weaker c.merge.result _ _ (λ w x. numbers_by rules plan _ firsts _ c.args.losses.items (scene w).book c.requires.first losses x) e.numbers;
      order = e.order;
      plan = e.plan;
      short = IfOk-weaker c.merge.result _ _ (λ w m. subst (λ (n : ℕ). n < 549755813888) (sym (length_permutation (log_entries news) (scene w).book m.same_entries)) few) e.book;
      chosen = IfOk-weaker c.merge.result _ _ (λ w m. all_chosen rules plan 134217728 plans olds news h made.logs (scene w).book m) e.book;
      passed = IfOk-weaker c.merge.result _ _ (λ w m short i low. jobs_have_passed g.A.Machine 134217728 c.in_ok-jobs.jobs.items c.in_ok-ran.ran.items olds news c.in_ok-jobs.ensures.actors c.in_ok-actors-2.ensures.actors c.in_ok-ran.ensures.len c.in_ok-actors-2.ensures.answers c.in_ok-ran.ensures.each
          200 (λ a k. g.G.Gate.passed c.args.gate.now a k) c.in_ok-ran.ensures.passed made.places (logs_within rules plan 134217728 plans olds news h made.logs (scene w).book m short) i (subst (λ (n : ℕ). i < n) (sym as_made) low)) e.book;
      rest = IfOk-weaker c.merge.result _ _ (λ w both short. at_rest rules plan 134217728 plans olds news h made.logs (scene w).book both.0 (scene w).states wired_news both.1 short) (if_both c.merge.result _ _ e.book e.machines);
    }
