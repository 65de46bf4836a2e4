-- Rows of places from which things are taken, and lists that go from one place to another.
use Rattle.std.proofs.Common.{◌≡◌, ◌≢◌, ◌⊎◌, ℕ, zero, suc, ◌<◌, List, [], ◌∷◌, ◌++◌, length, get_or, set, map, Option, None, Some, refl, ap, sym, ◌∙◌, arith, inl, inr, append_assoc, append-nil}
use Rattle.std.specs.Option.{option_map}
use Rattle.std.proofs.lemmas.Bool.{cases_eq}
use Rattle.std.proofs.lemmas.List.{map-append, get_or-set_same, get_or-set_other}
use Rattle.sl_actor.specs.Rows.{IsFilled, place_at}
use Rattle.sl_merge.specs.Parted.{empty_at}

module _ {X : Type 0} where
  -- a place that is filled is there
  pub filled_low : (row : List (Option X)) (place : ℕ) → IsFilled (get_or row place None) → place < length row
  filled_low [] place h = absurd h
  filled_low (x ∷ row) zero h = omega arith
  filled_low (x ∷ row) (suc place) h = omega (arith, filled_low row place h)

  pub filled_row : (rows : List (List (Option X))) (row place : ℕ) → IsFilled (place_at rows row place) → row < length rows
  filled_row [] row place h = absurd h
  filled_row (r ∷ rows) zero place h = omega arith
  filled_row (r ∷ rows) (suc row) place h = omega (arith, filled_row rows row place h)

  pub filled_by : (p : Option X) (x : X) → p ≡ Some x → IsFilled p
  filled_by None x is = absurd (cc)
  filled_by (Some y) x is = tt

  -- the other places
  pub else_there : (rows : List (List (Option X))) (row place r p : ℕ) → row < length rows → (r ≢ row) ⊎ (p ≢ place) → place_at (empty_at row place rows) r p ≡ place_at rows r p
  else_there rows row place r p low (inl other) = ap (λ l. get_or l p None) (get_or-set_other rows row r (set (get_or rows row []) place None) [] other)
  else_there rows row place r p low (inr other) =
      elim (cases_eq r row) [
        | inl same ↦
            let at : get_or (empty_at row place rows) r [] ≡ set (get_or rows row []) place None = rw same (get_or-set_same rows row (set (get_or rows row []) place None) [] low) in
            ap (λ l. get_or l p None) at ∙ get_or-set_other (get_or rows row []) place p None None other ∙ ap (λ k. get_or (get_or rows k []) p None) (sym same)
        | inr apart ↦ ap (λ l. get_or l p None) (get_or-set_other rows row r (set (get_or rows row []) place None) [] apart)
      ]

-- what a function makes of a place
in_row : {X Y : Type 0} (f : X → Y) (row : List (Option X)) (p : ℕ) → get_or (map (option_map f) row) p None ≡ option_map f (get_or row p None)
in_row f [] p = refl
in_row f (x ∷ row) zero = refl
in_row f (x ∷ row) (suc p) = in_row f row p

pub place_of_map : {X Y : Type 0} (f : X → Y) (rows : List (List (Option X))) (r p : ℕ) → place_at (map (λ (row : List (Option X)). map (option_map f) row) rows) r p ≡ option_map f (place_at rows r p)
place_of_map f [] r p = refl
place_of_map f (row ∷ rows) zero p = in_row f row p
place_of_map f (row ∷ rows) (suc r) p = place_of_map f rows r p

pub record Made {X Y : Type 0} (f : X → Y) (p : Option X) (y : Y) : Type 0 where
  pub x : X
  pub at : p ≡ Some x
  pub is : f x ≡ y

pub made_of : {X Y : Type 0} (f : X → Y) (p : Option X) (y : Y) → option_map f p ≡ Some y → Made f p y
made_of f None y h = absurd (cc)
made_of f (Some x) y h = record { x = x; at = refl; is = cc }

-- the first of what is left goes to the end of what is done
pub moved_on : {W Y Z : Type 0} (g : Y → Z) (e : W → Y) (done done' : List Z) (ws ws' : List W) (w : W) (z : Z) (all : List Z) → done ++ map g (map e ws) ≡ all → ws ≡ w ∷ ws' → done' ≡ done ++ z ∷ [] → z ≡ g (e w)
    → done' ++ map g (map e ws') ≡ all
moved_on g e done done' ws ws' w z all h first more is =
    ap (λ l. l ++ map g (map e ws')) more ∙ append_assoc done (z ∷ []) (map g (map e ws')) ∙ ap (λ y. done ++ y ∷ map g (map e ws')) is ∙ ap (λ l. done ++ map g (map e l)) (sym first) ∙ h

pub moved_by : {X W Y Z : Type 0} (f : X → Z) (g : Y → Z) (e : W → Y) (xs xs' : List X) (ws ws' : List W) (x : X) (w : W) (all : List Z) → map f xs ++ map g (map e ws) ≡ all → ws ≡ w ∷ ws' → xs' ≡ xs ++ x ∷ [] → f x ≡ g (e w)
    → map f xs' ++ map g (map e ws') ≡ all
moved_by f g e xs xs' ws ws' x w all h first more is = moved_on g e (map f xs) (map f xs') ws ws' w (f x) all h first (ap (map f) more ∙ map-append f xs (x ∷ [])) is

-- the same of a list that is not seen through another
pub moved : {W Z : Type 0} (g : W → Z) (done done' : List Z) (ws ws' : List W) (w : W) (z : Z) (all : List Z) → done ++ map g ws ≡ all → ws ≡ w ∷ ws' → done' ≡ done ++ z ∷ [] → z ≡ g w → done' ++ map g ws' ≡ all
moved g done done' ws ws' w z all h first more is =
    ap (λ l. l ++ map g ws') more ∙ append_assoc done (z ∷ []) (map g ws') ∙ ap (λ y. done ++ y ∷ map g ws') is ∙ ap (λ l. done ++ map g l) (sym first) ∙ h

-- all have been moved
pub moved_all : {W Z : Type 0} (rest : List W → List Z) (done : List Z) (ws : List W) (all : List Z) → rest [] ≡ [] → done ++ rest ws ≡ all → ws ≡ [] → done ≡ all
moved_all rest done ws all nothing h none = sym (append-nil done) ∙ ap (λ l. done ++ l) (sym nothing) ∙ ap (λ l. done ++ rest l) (sym none) ∙ h
