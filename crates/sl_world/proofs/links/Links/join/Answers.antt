use Rattle.std.proofs.Common.{◌∙◌, ap, rules}
use Rattle.sl_world.proofs.RoomLemmas.{none_roomy}
use Rattle.std.proofs.lemmas.Result.{IfOk-from_err}
use Rattle.sl_world.specs.Mesh.{lines_of}
use Rattle.sl_world.specs.Places.{incoming, outgoing}
use Rattle.sl_world.proofs.PlaceLemmas.{incoming_numbering, outgoing_numbering, incoming_leads, outgoing_leads, numbered, tabled}
use Rattle.sl_world.proofs.links.Links.join.Goals as goal

pub returns-in_err-in_pairs : goal.returns-in_err-in_pairs
returns-in_err-in_pairs g c = record { plan = IfOk-from_err _ _ c.from_residual.ensures.0; lines = IfOk-from_err _ _ c.from_residual.ensures.0 }

pub make-requires : goal.make-requires
make-requires g c = numbered _ _ _ _ (c.as_slice-2.ensures.value ∙ ap (λ p. p.ins) c.wiring.view_is) (c.as_slice-3.ensures.value ∙ (c.in_ok-in_pairs.ensures ∙ ap incoming (c.as_slice.ensures.value ∙ ap (λ p. p.links) c.wiring.view_is))) (incoming_numbering c.args.wiring.now c.requires.sound)

pub returns-in_err-ins : goal.returns-in_err-ins
returns-in_err-ins g c = record { plan = IfOk-from_err _ _ c.from_residual-in_err-ins.ensures.0; lines = IfOk-from_err _ _ c.from_residual-in_err-ins.ensures.0 }

pub returns-in_err-out_pairs : goal.returns-in_err-out_pairs
returns-in_err-out_pairs g c = record { plan = IfOk-from_err _ _ c.from_residual-in_err-out_pairs.ensures.0; lines = IfOk-from_err _ _ c.from_residual-in_err-out_pairs.ensures.0 }

pub make-requires-2 : goal.make-requires-2
make-requires-2 g c = numbered _ _ _ _ (c.as_slice-5.ensures.value ∙ ap (λ p. p.outs) c.wiring.view_is) (c.as_slice-6.ensures.value ∙ (c.in_ok-out_pairs.ensures ∙ ap outgoing (c.as_slice-4.ensures.value ∙ ap (λ p. p.links) c.wiring.view_is))) (outgoing_numbering c.args.wiring.now c.requires.sound)

pub returns-in_err-outs : goal.returns-in_err-outs
returns-in_err-outs g c = record { plan = IfOk-from_err _ _ c.from_residual-in_err-outs.ensures.0; lines = IfOk-from_err _ _ c.from_residual-in_err-outs.ensures.0 }

pub returns-in_err-wiring : goal.returns-in_err-wiring
returns-in_err-wiring g c = record { plan = IfOk-from_err _ _ c.from_residual-in_err-wiring.ensures.0; lines = IfOk-from_err _ _ c.from_residual-in_err-wiring.ensures.0 }

pub returns-in_err-lines : goal.returns-in_err-lines
returns-in_err-lines g c = record { plan = IfOk-from_err _ _ c.from_residual-in_err-lines.ensures.0; lines = IfOk-from_err _ _ c.from_residual-in_err-lines.ensures.0 }

pub returns : goal.returns
returns g c = record { plan = c.in_ok-wiring.ensures; lines = ap lines_of c.in_ok-lines.ensures }

pub invariant_of-result : goal.invariant_of-result
invariant_of-result g c = rw (c.in_ok-wiring.ensures, c.in_ok-lines.ensures) (record {
  sound = c.requires.sound;
  in_places = incoming_leads c.args.wiring.now c.requires.sound _ (tabled _ _ _ _ _ (c.as_slice-2.ensures.value ∙ ap (λ p. p.ins) c.wiring.view_is) (c.as_slice-3.ensures.value ∙ (c.in_ok-in_pairs.ensures ∙ ap incoming (c.as_slice.ensures.value ∙ ap (λ p. p.links) c.wiring.view_is))) c.in_ok-ins.ensures);
  out_places = outgoing_leads c.args.wiring.now c.requires.sound _ (tabled _ _ _ _ _ (c.as_slice-5.ensures.value ∙ ap (λ p. p.outs) c.wiring.view_is) (c.as_slice-6.ensures.value ∙ (c.in_ok-out_pairs.ensures ∙ ap outgoing (c.as_slice-4.ensures.value ∙ ap (λ p. p.links) c.wiring.view_is))) c.in_ok-outs.ensures);
  lines_each = c.requires.each;
  roomy_each = search rules;
  room = λ a h. absurd (none_roomy _ _ a (c.in_ok-roomy.ensures.items_if_clones_equal (λ y e. e)) h);
})
