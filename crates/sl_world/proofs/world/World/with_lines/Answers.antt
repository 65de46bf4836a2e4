use Rattle.std.proofs.Common.{◌∙◌, ◌≤◌, arith, ap, length, map, refl, subst, sym}
use Rattle.std.specs.Prelude.{slice_index}
use Rattle.std.proofs.lemmas.Result.{IfOk-from_err}
use Rattle.std.proofs.lemmas.List.{length-map}
use Rattle.sl_machine.specs.Fit.{HasCounts}
use Rattle.sl_world.specs.Mesh.{lines_of}
use Rattle.sl_world.proofs.BookLaws.{last_low}
use Rattle.sl_world.proofs.TurnLemmas.{same_is}
use Rattle.sl_world.proofs.RestLemmas.{none_resting}
use Rattle.sl_world.proofs.world.World.with_lines.Goals as goal

pub returns-in_err-out : goal.returns-in_err-out
returns-in_err-out g c = IfOk-from_err _ _ c.from_residual.ensures.0

pub join-requires-clause-sound : goal.join-requires-clause-sound
join-requires-clause-sound g c = c.requires.sound

pub join-requires-clause-each : goal.join-requires-clause-each
join-requires-clause-each g c = c.requires.lines

pub returns-in_err-links : goal.returns-in_err-links
returns-in_err-links g c = IfOk-from_err _ _ c.from_residual-in_err-links.ensures.0

pub invariant_of-result : goal.invariant_of-result
invariant_of-result g c =
    let plan = c.in_ok-links.ensures.plan in
    record {
      machines_fit = subst (λ p. HasCounts g.A.Machine.counts p c.args.machines.items) (sym plan) c.requires.machines;
      clear = ap length c.in_ok-out.ensures.items;
      space = λ k. rw (plan, c.in_ok-out.ensures.room) (subst (λ xs. slice_index xs k ≤ c.greatest.result) (c.as_slice.ensures.value ∙ ap (λ p. p.outs) c.wiring.view_is) (c.greatest.ensures k));
      numbered = last_low c.args.book.entries _ c.requires.numbers;
      low = c.requires.numbers;
      rests = none_resting g.A.Machine.rules (map g.A.Machine.state c.args.machines.items) c.in_ok-resting.resting.items _ (c.in_ok-resting.ensures.items_if_clones_equal (λ y e. e)) (omega (arith, c.len.ensures, c.args.machines.ok, length-map c.args.machines.items g.A.Machine.state));
    }

pub returns : goal.returns
returns g c = same_is (record { plan = c.args.wiring.now; states = map g.A.Machine.state c.args.machines.items; lines = lines_of c.args.lines.items; book = c.args.book.entries }) _ _ _ _ c.in_ok-links.ensures.plan refl c.in_ok-links.ensures.lines refl
