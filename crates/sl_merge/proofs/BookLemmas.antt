-- The entries of a book and the steps of the histories are one list.
use Rattle.std.proofs.Common.{◌≡◌, ℕ, ◌<◌, ◌==◌, Bool, true, false, if◌then◌else◌, List, [], ◌∷◌, length, map, sym, refl, ap, ◌∙◌, subst, eq-eqb, eqb-true}
use Rattle.sl_machine.specs.Machine.{Rules}
use Rattle.sl_machine.specs.declared.wiring.Entry.{Entry}
use Rattle.sl_link.specs.declared.ends.Stamped.{Stamped}
use Rattle.sl_actor.specs.Histories.{Step, number, entries_of}
use Rattle.sl_world.specs.Scene.{schedule_of}
use Rattle.sl_merge.specs.Outcome.{Outcome, AreFollowed, IsRun}
use Rattle.sl_merge.proofs.WeavingLemmas.{schedule_by}
use Rattle.sl_merge.proofs.PartLemmas.{part_of, AreBelow}
use Rattle.sl_merge.proofs.RunLemmas.{AreRising, weave_is_run}

-- each entry as one of its actor's log
abbrev pub by_actor : List Entry → List (ℕ × (ℕ × ℕ))
by_actor book = map (λ e. (e.actor, (e.number, e.choice))) book

-- a book has the logs of all, in the order of their numbers
pub record HasLogs (actors : ℕ) (logs : ℕ → List (ℕ × ℕ)) (book : List Entry) : Type 0 where
  pub below : AreBelow actors (by_actor book)
  pub parts : (a : ℕ) → a < actors → part_of a (by_actor book) ≡ logs a
  pub ordered : AreRising (map (λ e. e.number) book)

map-map : {A B C : Type 0} (g : B → C) (f : A → B) (xs : List A) → map g (map f xs) ≡ map (λ x. g (f x)) xs
map-map g f [] = refl
map-map g f (x ∷ xs) = ap (λ t. g (f x) ∷ t) (map-map g f xs)

module _ {X Y : Type 0} (f : X → Y) where
  -- a list with an image that has a first element
  first_of_map : (xs : List X) (y : Y) (ys : List Y) → map f xs ≡ y ∷ ys → (x : X) × (rest : List X) × (xs ≡ x ∷ rest) × (f x ≡ y) × (map f rest ≡ ys)
  first_of_map [] y ys e = absurd (cc)
  first_of_map (x ∷ xs) y ys e = let head : f x ≡ y = cc in let tail : map f xs ≡ ys = cc in (x, xs, refl, head, tail)

  nil_of_map : (xs : List X) → map f xs ≡ [] → xs ≡ []
  nil_of_map [] e = refl
  nil_of_map (x ∷ xs) e = absurd (cc)

  -- lists, one for each actor, woven as their images are
  record Woven (n : ℕ) (parts : ℕ → List X) (book : List (ℕ × Y)) : Type 0 where
    merged : List (ℕ × X)
    image : map (λ e. (e.0, f e.1)) merged ≡ book
    parts_are : (a : ℕ) → a < n → part_of a merged ≡ parts a
    below : AreBelow n merged

  -- the parts without the first element of one
  without : ℕ → List X → (ℕ → List X) → ℕ → List X
  without b rest parts a = if b == a then rest else parts a

  rest_is : (b a : ℕ) (y : Y) (es : List (ℕ × Y)) (x : X) (rest : List X) (parts : ℕ → List X) (t : Bool) → (b == a) ≡ t → part_of b es ≡ map f rest → part_of a ((b, y) ∷ es) ≡ map f (parts a)
      → part_of a es ≡ map f (without b rest parts a)
  unfolding without
  rest_is b a y es x rest parts true e own h = rw e (ap (λ (j : ℕ). part_of j es) (sym (eqb-true b a e)) ∙ own)
  rest_is b a y es x rest parts false e own h = let other : part_of a ((b, y) ∷ es) ≡ part_of a es = rw e refl in rw e (sym other ∙ h)

  whole_is : (b a : ℕ) (merged : List (ℕ × X)) (x : X) (rest : List X) (parts : ℕ → List X) (t : Bool) → (b == a) ≡ t → parts b ≡ x ∷ rest → part_of a merged ≡ without b rest parts a → part_of a ((b, x) ∷ merged) ≡ parts a
  unfolding without
  whole_is b a merged x rest parts true e own h =
      let here : part_of a merged ≡ rest = h ∙ rw e refl in
      rw e (ap (λ (t : List X). x ∷ t) here ∙ sym own ∙ ap parts (eqb-true b a e))
  whole_is b a merged x rest parts false e own h = let here : part_of a merged ≡ parts a = h ∙ rw e refl in rw e here

  weave : (n : ℕ) (parts : ℕ → List X) (book : List (ℕ × Y)) → AreBelow n book → ((a : ℕ) → a < n → part_of a book ≡ map f (parts a)) → Woven n parts book
  weave n parts [] below h = record { merged = []; image = refl; parts_are = λ a low. sym (nil_of_map (parts a) (sym (h a low))); below = tt }
  weave n parts (e ∷ es) below h =
      let own : part_of e.0 (e ∷ es) ≡ e.1 ∷ part_of e.0 es = rw (eq-eqb e.0 e.0 refl) refl in
      let first = first_of_map (parts e.0) e.1 (part_of e.0 es) (sym (h e.0 below.0) ∙ own) in
      let rest : Woven n (without e.0 first.1 parts) es = weave n (without e.0 first.1 parts) es below.1 (λ a low. rest_is e.0 a e.1 es first.0 first.1 parts (e.0 == a) refl (sym first.4) (h a low)) in
      record {
        merged = (e.0, first.0) ∷ rest.merged;
        image = ap (λ (y : Y). (e.0, y) ∷ map (λ e. (e.0, f e.1)) rest.merged) first.3 ∙ ap (λ (t : List (ℕ × Y)). e ∷ t) rest.image;
        parts_are = λ a low. whole_is e.0 a rest.merged first.0 first.1 parts (e.0 == a) refl first.2 (rest.parts_are a low);
        below = (below.0, rest.below);
      }

module _ {S M : Type 0} (rules : Rules S M) (o : Outcome S M) (h : AreFollowed rules o) where
  abbrev entry_of : Step (S × ℕ) (Stamped M) → ℕ × ℕ
  entry_of e = (number e, e.choice)

  -- a book with the logs of all is a run
  pub book_is_run : (book : List Entry) → HasLogs (length o.plan.ins) (λ a. entries_of (o.histories a)) book → IsRun rules o book
  book_is_run book b =
      let x : Woven entry_of (length o.plan.ins) o.histories (by_actor book) = weave entry_of (length o.plan.ins) o.histories (by_actor book) b.below b.parts in
      let E : Type 0 = ℕ × Step (S × ℕ) (Stamped M) in
      let schedule : schedule_by x.merged ≡ schedule_of book =
      sym (map-map (λ (p : ℕ × (ℕ × ℕ)). (p.0, p.1.1)) (λ (e : E). (e.0, entry_of e.1)) x.merged) ∙ ap (map (λ p. (p.0, p.1.1))) x.image ∙ map-map (λ (p : ℕ × (ℕ × ℕ)). (p.0, p.1.1)) (λ (e : Entry). (e.actor, (e.number, e.choice))) book in
      let numbers : map (λ (e : E). number e.1) x.merged ≡ map (λ e. e.number) book =
      sym (map-map (λ (p : ℕ × (ℕ × ℕ)). p.1.0) (λ (e : E). (e.0, entry_of e.1)) x.merged) ∙ ap (map (λ p. p.1.0)) x.image ∙ map-map (λ (p : ℕ × (ℕ × ℕ)). p.1.0) (λ (e : Entry). (e.actor, (e.number, e.choice))) book in
      weave_is_run rules o h x.merged (record { below = x.below; parts = x.parts_are; ordered = subst AreRising (sym numbers) b.ordered }) book schedule numbers
