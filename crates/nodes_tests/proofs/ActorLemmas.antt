-- Actors that have the numbers of a plan, and one of which takes a turn.
use Rattle.std.proofs.Common.{◌≡◌, ℕ, List, [], ◌∷◌, map, get_or, refl, ap, sym, ◌∙◌}
use Rattle.std.proofs.Math.Seq.{map-set_same}
use Rattle.std.specs.Prelude.{slice_set}
use Rattle.sl_machine.specs.Machine.{Counts}
use Rattle.sl_machine.specs.Plan.{Plan}
use Rattle.sl_machine.specs.Fit.{HasCounts}

twice : {A B C : Type 0} (f : A → B) (g : B → C) (xs : List A) → map (λ a. g (f a)) xs ≡ map g (map f xs)
twice f g [] = refl
twice f g (a ∷ xs) = ap (λ l. g (f a) ∷ l) (twice f g xs)

pub fit_set : {A : Type 0} (counts : A → Counts) (plan : Plan) (xs : List A) (i : ℕ) (x d : A) → d ≡ get_or xs i d → counts x ≡ counts d → HasCounts counts plan xs → HasCounts counts plan (slice_set xs i x)
fit_set counts plan xs i x d at same fit =
    let is = same ∙ ap counts at in
    record {
      ins_are = map-set_same (λ a. (counts a).ins) xs i x d (ap (λ (n : Counts). n.ins) is) ∙ fit.ins_are;
      outs_are = map-set_same (λ a. (counts a).outs) xs i x d (ap (λ (n : Counts). n.outs) is) ∙ fit.outs_are;
      actions_are = map-set_same (λ a. (counts a).actions) xs i x d (ap (λ (n : Counts). n.actions) is) ∙ fit.actions_are;
    }

-- actors fit where they have the numbers of machines that fit
pub fit_by : {A V B : Type 0} (view : A → V) (f : V → Counts) (g : B → Counts) (plan : Plan) (xs : List A) (ys : List B) → map f (map view xs) ≡ map g ys → HasCounts g plan ys → HasCounts (λ a. f (view a)) plan xs
fit_by {A} view f g plan xs ys same fit =
    let counts = λ (a : A). f (view a) in
    let all : map counts xs ≡ map g ys = twice view f xs ∙ same in
    record {
      ins_are = twice counts (λ (n : Counts). n.ins) xs ∙ ap (map (λ (n : Counts). n.ins)) all ∙ sym (twice g (λ (n : Counts). n.ins) ys) ∙ fit.ins_are;
      outs_are = twice counts (λ (n : Counts). n.outs) xs ∙ ap (map (λ (n : Counts). n.outs)) all ∙ sym (twice g (λ (n : Counts). n.outs) ys) ∙ fit.outs_are;
      actions_are = twice counts (λ (n : Counts). n.actions) xs ∙ ap (map (λ (n : Counts). n.actions)) all ∙ sym (twice g (λ (n : Counts). n.actions) ys) ∙ fit.actions_are;
    }
