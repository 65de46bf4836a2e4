use Rattle.std.proofs.Common.{◌≡◌, ◌<◌, ℕ, List, ap, subst, sym, ◌∙◌, arith, length}
use Rattle.std.specs.List.{All}
use Rattle.std.proofs.lemmas.Grind.{common_steps}
use Rattle.sl_layout.specs.Net.{actor_of, is_host}
use Rattle.sl_layout.proofs.Grouping.{low_filter}
use Rattle.sl_parts.proofs.Lists.{filter_below_more}
use Rattle.sl_cut.proofs.wires.hosts.Goals as goal

pub loop-actor-preserved : goal.loop-actor-preserved
loop-actor-preserved c = rw (filter_below_more (λ a. is_host (actor_of c.args.net.now a)) c.loop-actor.actor) (grind (arith, common_steps))

pub returns-clause-each : goal.returns-clause-each
returns-clause-each c =
    let whole : c.loop-actor.actor ≡ length c.actors.result.now = omega (arith, c.loop-actor.auto.actor-end, c.loop-actor-test.false) in
    subst (λ (n : ℕ). All (λ (a : ℕ). a < n) c.loop-actor.hosts.items) (whole ∙ ap length c.actors.ensures.now)
    (subst (λ (xs : List ℕ). All (λ (a : ℕ). a < c.loop-actor.actor) xs) (sym c.loop-actor.invariant) (low_filter (λ a. is_host (actor_of c.args.net.now a)) c.loop-actor.actor))

pub returns-clause-hosts : goal.returns-clause-hosts
returns-clause-hosts c = grind (arith, common_steps)
