-- Every schedule keeps the shape of a world.
use Rattle.std.specs.Prelude.{◌≡◌, ℕ, List, [], ◌∷◌, length, slice_set, refl}
use Rattle.std.proofs.Common.{◌∙◌}
use Rattle.std.proofs.lemmas.List.{length-set}
use Rattle.sl_machine.specs.Machine.{Rules}
use Rattle.sl_machine.specs.Plan.{link_in, link_out}
use Rattle.sl_world.specs.Scene.{Line, line_at, line_put, put_at, put_each, without_first, Scene, after_all}
use Rattle.sl_world.specs.Keeping.{SameShape}
use Rattle.sl_world.proofs.TurnLaws.{KeptByTurns, all_kept}

-- as many links as before
pub length-put_each : {M : Type 0} (place : ℕ → ℕ) (ps : List (ℕ × M)) (lines : List (Line M)) → length (put_each place ps lines) ≡ length lines
length-put_each place [] lines = refl
length-put_each place (p ∷ ps) lines = length-put_each place ps (put_at lines (place p.0) p.1) ∙ length-set lines (place p.0) (line_put (line_at lines (place p.0)) p.1)

-- every schedule keeps the shape
pub shape_kept : {S M : Type 0} (rules : Rules S M) (w : Scene S M) → KeptByTurns rules (SameShape w)
shape_kept rules w =
    record {
      by_take = λ v actor choice t shape.
          record {
            plan = shape.plan;
            states = length-set v.states actor (rules.take t.state choice t.message).state ∙ shape.states;
            lines = length-put_each (link_out v.plan.links actor) (rules.take t.state choice t.message).puts (slice_set v.lines (link_in v.plan.links actor choice) (without_first t.line t.rest))
                ∙ (length-set v.lines (link_in v.plan.links actor choice) (without_first t.line t.rest) ∙ shape.lines);
          };
      by_act = λ v actor choice t shape.
          record {
            plan = shape.plan;
            states = length-set v.states actor t.after.state ∙ shape.states;
            lines = length-put_each (link_out v.plan.links actor) t.after.puts v.lines ∙ shape.lines;
          };
    }

pub same_shape : {S M : Type 0} (rules : Rules S M) (w : Scene S M) (es : List (ℕ × ℕ)) → SameShape w (after_all rules w es)
same_shape rules w es = all_kept rules (SameShape w) (shape_kept rules w) w es (record { plan = refl; states = refl; lines = refl })
