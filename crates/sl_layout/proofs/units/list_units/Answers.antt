use Rattle.std.proofs.Common.{◌++◌, ◌∷◌, [], ap, sym, ◌∙◌, get_or, map}
use Rattle.std.specs.Prelude.{cond}
use Rattle.sl_layout.specs.declared.actor.ActorId.TheVariants.{Observer}
use Rattle.sl_layout.specs.Net.{is_unit, nobody}
use Rattle.sl_layout.proofs.Grouping.{number_noted, id_noted}
use Rattle.sl_layout.proofs.units.list_units.Goals as goal

pub loop-i-preserved : goal.loop-i-preserved
loop-i-preserved c =
    let actors = c.args.actors.now in
    let i = c.loop-i.i in
    let actor = get_or actors i Observer in
    record {
      numbers = c.in_ok-add_unit.ensures.numbers ∙ ap (λ xs. xs ++ cond (is_unit actor) (i ∷ []) []) c.loop-i.invariant.numbers ∙ number_noted actors i Observer c.loop-i-test.true;
      ids = c.in_ok-add_unit.ensures.ids ∙ ap (λ xs. xs ++ cond (is_unit actor) (actor ∷ []) []) c.loop-i.invariant.ids ∙ id_noted actors c.loop-i.numbers.items i Observer c.loop-i-test.true
          ∙ ap (map (λ a. get_or actors a nobody)) (sym c.in_ok-add_unit.ensures.numbers);
    }
