use Rattle.std.proofs.Common.{ℕ, ◌≡◌, ◌∙◌, ◌+◌, ◌++◌, ◌∷◌, [], ap, subst, arith, rules, length, List, Option}
use Rattle.std.specs.Prelude.{IfSome}
use Rattle.std.specs.List.{All}
use Rattle.std.proofs.lemmas.List.{length_push}
use Rattle.sl_link.specs.Ends.{TakeView}
use Rattle.sl_link.specs.declared.ends.Stamped.{Stamped}
use Rattle.sl_actor.specs.declared.part.OutPart.{OutPart}
use Rattle.sl_actor.specs.Rows.{IsFilled}
use Rattle.sl_actor.specs.Held.{held}
use Rattle.sl_actor.specs.Made.{IsNewPart, IsNew}
use Rattle.sl_actor.proofs.MakeLemmas.{first_left, such_row}
use Rattle.sl_actor.proofs.AssembleLemmas.{row_is_low, next_counted, some_left, left_on, new_on}
use Rattle.sl_actor.proofs.make.assemble_each.Goals as goal

pub first-ends-requires : goal.first-ends-requires
first-ends-requires g c =
    let h = c.loop-machine.invariant in
    omega (arith, some_left c.args.takes.now.items c.loop-machine.takes.items _ h.1 (row_is_low (λ m. (g.A.Machine.counts m).ins) _ _ _ _ _ _ c.requires.takes_each h.3 c.in-Some.ensures.items), c.loop-machine.takes.ok.0)

pub first-parts-requires : goal.first-parts-requires
first-parts-requires g c =
    let h = c.loop-machine.invariant in
    omega (arith, some_left c.args.outs.now.items c.loop-machine.outs.items _ h.2 (row_is_low (λ m. (g.A.Machine.counts m).outs) _ _ _ _ _ _ c.requires.outs_each h.3 c.in-Some.ensures.items), c.loop-machine.outs.ok.0)

pub new-requires-clause-takes : goal.new-requires-clause-takes
new-requires-clause-takes g c =
    let h = c.loop-machine.invariant in
    subst (λ (row : List (Option (TakeView (Stamped g.row.A-Msg.Denot)))). All IsFilled row) (first_left c.args.takes.now.items _ _ c.first-ends.result _ [] h.1 c.first-ends.ensures)
    (c.requires.takes (length c.loop-machine.actors.items) [] (row_is_low (λ m. (g.A.Machine.counts m).ins) _ _ _ _ _ _ c.requires.takes_each h.3 c.in-Some.ensures.items))

pub new-requires-clause-outs : goal.new-requires-clause-outs
new-requires-clause-outs g c =
    let h = c.loop-machine.invariant in
    subst (λ (row : List (Option (OutPart g.row.A-Msg.Denot))). All IsFilled row) (first_left c.args.outs.now.items _ _ c.first-parts.result _ [] h.2 c.first-parts.ensures)
    (c.requires.outs (length c.loop-machine.actors.items) [] (row_is_low (λ m. (g.A.Machine.counts m).outs) _ _ _ _ _ _ c.requires.outs_each h.3 c.in-Some.ensures.items))

pub new-requires-clause-ins : goal.new-requires-clause-ins
new-requires-clause-ins g c =
    let h = c.loop-machine.invariant in
    next_counted (λ m. (g.A.Machine.counts m).ins) _ _ _ _ _ _ c.requires.takes_each h.3 c.in-Some.ensures.items _ c.first-ends.result _ h.0 h.1 c.first-ends.ensures

pub new-requires-clause-outs_each : goal.new-requires-clause-outs_each
new-requires-clause-outs_each g c =
    let h = c.loop-machine.invariant in
    next_counted (λ m. (g.A.Machine.counts m).outs) _ _ _ _ _ _ c.requires.outs_each h.3 c.in-Some.ensures.items _ c.first-parts.result _ h.0 h.2 c.first-parts.ensures

pub new-requires-clause-empty : goal.new-requires-clause-empty
new-requires-clause-empty g c =
    let h = c.loop-machine.invariant in
    subst (λ (row : List (Option (OutPart g.row.A-Msg.Denot))). All (λ p. IfSome p IsNewPart) row) (first_left c.args.outs.now.items _ _ c.first-parts.result _ [] h.2 c.first-parts.ensures)
    (such_row IsNewPart c.args.outs.now.items (length c.loop-machine.actors.items) c.requires.parts)

pub loop-machine-preserved : goal.loop-machine-preserved
loop-machine-preserved g c =
    let h = c.loop-machine.invariant in
    let pushed : c.push.new.self.items ≡ c.loop-machine.actors.items ++ c.in_ok-actor.actor ∷ [] = search rules in
    let here : c.len-place.result ≡ length c.loop-machine.actors.items = search rules in
    let next : length c.push.new.self.items ≡ length c.loop-machine.actors.items + 1 = ap length pushed ∙ length_push c.loop-machine.actors.items c.in_ok-actor.actor in (
      left_on c.args.machines.now.items _ _ _ _ c.in-Some.machine h.0 c.in-Some.ensures.items next,
      left_on c.args.takes.now.items _ _ _ _ c.first-ends.result h.1 c.first-ends.ensures next,
      left_on c.args.outs.now.items _ _ _ _ c.first-parts.result h.2 c.first-parts.ensures next,
      omega (arith, next, h.3, ap length c.in-Some.ensures.items),
      new_on held g.A.Machine.state g.A.Machine.counts c.args.machines.now.items c.args.takes.now.items c.args.outs.now.items c.loop-machine.actors.items c.push.new.self.items c.in_ok-actor.actor c.in-Some.machine c.first-ends.result c.first-parts.result pushed
          (λ m. first_left c.args.machines.now.items _ _ c.in-Some.machine _ m h.0 c.in-Some.ensures.items)
          (first_left c.args.takes.now.items _ _ c.first-ends.result _ [] h.1 c.first-ends.ensures)
          (first_left c.args.outs.now.items _ _ c.first-parts.result _ [] h.2 c.first-parts.ensures)
          (subst (λ (n : ℕ). IsNew n (g.A.Machine.state c.in-Some.machine) (g.A.Machine.counts c.in-Some.machine) c.first-ends.result c.first-parts.result (held c.in_ok-actor.actor)) here c.in_ok-actor.ensures) h.4,
    )
