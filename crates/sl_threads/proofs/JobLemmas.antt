-- Actors paired with their plans.
use Rattle.std.proofs.Common.{◌≡◌, ℕ, suc, ◌+◌, ◌<◌, ◌≤◌, List, [], ◌∷◌, ◌++◌, length, map, refl, ap, sym, ◌∙◌, subst, arith, append_assoc}
use Rattle.std.specs.Prelude.{Result, Ok, Err, OnOk}
use Rattle.std.specs.List.{All}
use Rattle.std.proofs.lemmas.List.{map-append, append-nil, length-map, nil_from_length}
use Rattle.std.proofs.lemmas.List.Elements.{All-cons}
use Rattle.sl_machine.specs.declared.machine.Memory.{Memory}
use Rattle.sl_machine.specs.Machine.{Counts, IsChoice}
use Rattle.sl_actor.specs.declared.run.Rest.{Rest}
use Rattle.sl_actor.specs.declared.run.Rest.TheVariants.{Rested, Spent}
use Rattle.sl_threads.specs.Threads.{ArePlans}

-- the first of what is left goes to the end of what is done
pub moved_by : {X Y Z : Type 0} (f : X → Z) (g : Y → Z) (xs xs' : List X) (ys ys' : List Y) (x : X) (y : Y) (all : List Z) → map f xs ++ map g ys ≡ all → ys ≡ y ∷ ys' → xs' ≡ xs ++ x ∷ [] → f x ≡ g y → map f xs' ++ map g ys' ≡ all
moved_by f g xs xs' ys ys' x y all h first more is =
    ap (λ l. l ++ map g ys') (ap (map f) more ∙ map-append f xs (x ∷ [])) ∙ append_assoc (map f xs) (f x ∷ []) (map g ys') ∙ ap (λ z. map f xs ++ z ∷ map g ys') is ∙ ap (λ l. map f xs ++ map g l) (sym first) ∙ h

-- the first plan and the others
pub first_plan : (n : Counts) (ns : List Counts) (p : List ℕ) (ps : List (List ℕ)) → ArePlans (n ∷ ns) (p ∷ ps) → All (λ choice. IsChoice n choice) p
first_plan n ns p ps h = h.choices 0 n (omega arith)

pub other_plans : (n : Counts) (ns : List Counts) (p : List ℕ) (ps : List (List ℕ)) → ArePlans (n ∷ ns) (p ∷ ps) → ArePlans ns ps
other_plans n ns p ps h = record { each = omega (arith, h.each); choices = λ i d low. h.choices (suc i) d (omega arith) }

-- the first actor and its plan
pub opened : {A P : Type 0} (counts : A → Counts) (list : P → List ℕ) (xs xs' : List A) (x : A) (ps ps' : List P) (p : P) → xs ≡ x ∷ xs' → ps ≡ p ∷ ps' → ArePlans (map counts xs) (map list ps) → ArePlans (counts x ∷ map counts xs') (list p ∷ map list ps')
opened {A} {P} counts list xs xs' x ps ps' p first plan h =
    subst (λ (l : List P). ArePlans (counts x ∷ map counts xs') (map list l)) plan (subst (λ (l : List A). ArePlans (map counts l) (map list ps)) first h)

pub none_left : {A P : Type 0} (counts : A → Counts) (list : P → List ℕ) (xs : List A) (ps : List P) → xs ≡ [] → ArePlans (map counts xs) (map list ps) → ps ≡ []
none_left counts list xs ps none h = nil_from_length ps (sym (length-map ps list) ∙ h.each ∙ length-map xs counts ∙ ap length none)

pub some_left : {A P : Type 0} (counts : A → Counts) (list : P → List ℕ) (xs xs' : List A) (x : A) (ps : List P) → xs ≡ x ∷ xs' → ps ≡ [] → ArePlans (map counts xs) (map list ps) → ⊥
some_left counts list xs xs' x ps first none h =
    let many : length xs ≡ length ps = sym (length-map xs counts) ∙ sym h.each ∙ length-map ps list in
    absurd (omega (arith, many, ap length first, ap length none))

pub at_end : {X Y Z : Type 0} (f : X → Z) (g : Y → Z) (xs : List X) (ys : List Y) (all : List Z) → map f xs ++ map g ys ≡ all → ys ≡ [] → map f xs ≡ all
at_end f g xs ys all h none = sym (append-nil (map f xs)) ∙ ap (λ l. map f xs ++ map g l) (sym none) ∙ h

-- what holds of a list of which a part is left, where it holds of that part
pub all_on : {X : Type 0} (P : X → Type 0) (Q : Type 0) (x : X) (rest rest' : List X) → rest ≡ x ∷ rest' → P x → (All P rest → Q) → All P rest' → Q
all_on P Q x rest rest' first here h all = h (subst (All P) (sym first) (All-cons P x rest' here all))

-- however a run ended, it made no more steps than it was told
pub at_most : (answer : Result Rest Memory) (old new steps : ℕ) → (answer ≡ Ok Spent → new ≡ old + steps) → (answer ≡ Ok Rested → new < old + steps) → OnOk answer (new ≤ old + steps)
at_most (Ok Rested) old new steps spent rested = omega (arith, rested refl)
at_most (Ok Spent) old new steps spent rested = omega (arith, spent refl)
at_most (Err e) old new steps spent rested = tt
