use Rattle.std.proofs.Common.{◌≡◌, ◌∙◌, ◌++◌, ◌∷◌, [], List, Option, Some, map, ap, refl, rules}
use Rattle.std.specs.Option.{option_map}
use Rattle.sl_actor.specs.declared.part.OutPart.{OutPart}
use Rattle.sl_actor.specs.Outs.{out_view}
use Rattle.sl_actor.specs.Follows.{ActorView}
use Rattle.sl_actor.specs.Held.{held}
use Rattle.sl_merge.proofs.RowLemmas.{moved_on, moved_by, moved_all}
use Rattle.sl_merge.proofs.ApartLemmas.{seen_parts}
use Rattle.sl_merge.proofs.parts.take_apart.Goals as goal

pub loop-actor-preserved : goal.loop-actor-preserved
loop-actor-preserved g c =
    let h = c.loop-actor.invariant in
    let ws = c.loop-actor.actors.items in
    let rest = c.pop_front.new.self.items in
    let w = c.in-Some.actor in
    let first = c.in-Some.ensures.items in
    let e = c.into_parts-parts.ensures in
    let machine : c.push.new.self.items ≡ c.loop-actor.machines.items ++ c.into_parts-parts.result.machine ∷ [] = c.in_ok-push.ensures.items in
    let log : c.push-in-Some.new.self.items ≡ c.loop-actor.logs.items ++ c.into_parts-parts.result.log ∷ [] = c.in_ok-push-2.ensures.items in
    let take : c.push-in-Some-2.new.self.items ≡ c.loop-actor.takes.items ++ c.in_ok-new.field-0 ∷ [] = c.in_ok-push-3.ensures.items in
    let out : c.push-in-Some-3.new.self.items ≡ c.loop-actor.outs.items ++ c.in_ok-new-2.field-0 ∷ [] = c.in_ok-push-4.ensures.items in (
      moved_by g.A.Machine.state (λ (a : ActorView g.A.Machine.State g.row.A-Msg.Denot). a.state) held c.loop-actor.machines.items c.push.new.self.items ws rest c.into_parts-parts.result.machine w _ h.0 first machine e.state,
      moved_by g.A.Machine.counts (λ (a : ActorView g.A.Machine.State g.row.A-Msg.Denot). a.counts) held c.loop-actor.machines.items c.push.new.self.items ws rest c.into_parts-parts.result.machine w _ h.1 first machine e.counts,
      moved_by (λ log. log.items) (λ (a : ActorView g.A.Machine.State g.row.A-Msg.Denot). a.log) held c.loop-actor.logs.items c.push-in-Some.new.self.items ws rest c.into_parts-parts.result.log w _ h.2 first log e.log,
      moved_on (λ (a : ActorView g.A.Machine.State g.row.A-Msg.Denot). map Some a.takes) held c.loop-actor.takes.items c.push-in-Some-2.new.self.items ws rest w c.in_ok-new.field-0 _ h.3 first take (c.in_ok-new.ensures ∙ ap (map Some) e.takes),
      moved_by (λ (row : List (Option (OutPart g.row.A-Msg.Denot))). map (option_map out_view) row) (λ (a : ActorView g.A.Machine.State g.row.A-Msg.Denot). map Some a.outs) held c.loop-actor.outs.items c.push-in-Some-3.new.self.items ws rest c.in_ok-new-2.field-0 w _ h.4 first out
          (ap (map (option_map out_view)) c.in_ok-new-2.ensures ∙ seen_parts c.into_parts-parts.result.outs.items ∙ ap (map Some) e.outs),
    )

pub returns : goal.returns
returns g c =
    let h = c.loop-actor.invariant in
    let ws = c.loop-actor.actors.items in
    let none : ws ≡ [] = search rules in
    record {
      states = moved_all (λ l. map (λ a. a.state) (map held l)) _ ws _ refl h.0 none;
      counts = moved_all (λ l. map (λ a. a.counts) (map held l)) _ ws _ refl h.1 none;
      logs = moved_all (λ l. map (λ a. a.log) (map held l)) _ ws _ refl h.2 none;
      takes = moved_all (λ l. map (λ a. map Some a.takes) (map held l)) _ ws _ refl h.3 none;
      outs = moved_all (λ l. map (λ a. map Some a.outs) (map held l)) _ ws _ refl h.4 none;
    }
