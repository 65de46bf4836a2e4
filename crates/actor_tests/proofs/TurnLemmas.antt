-- Actors of which one takes a turn.
use Rattle.std.proofs.Common.{◌≡◌, ℕ, ◌<◌, List, length, map, get_or, refl, ap, sym, ◌∙◌, subst, inl, inr}
use Rattle.std.specs.Prelude.{slice_set}
use Rattle.std.proofs.lemmas.Bool.{cases_eq}
use Rattle.std.proofs.lemmas.List.{length-map, length-set, map-set, get_or-map, get_or-set_same, get_or-set_other, get_or_default}
use Rattle.std.proofs.Math.Seq.{map-set_same}
use Rattle.sl_machine.specs.Machine.{Rules}
use Rattle.sl_actor.specs.Follows.{ActorView, Follows}
use Rattle.sl_actor.specs.Made.{EachFollows}
use Rattle.sl_actor.specs.Turns.{KeepsEnds}
use Rattle.sl_merge.specs.Merged.{AreKept}

module _ {S M : Type 0} where
  unchanged : (a : ActorView S M) → KeepsEnds a a
  unchanged a = record { takes = refl; outs = refl; capacities = refl; losses = refl }

  pub kept : (actors : List (ActorView S M)) (i : ℕ) (x d : ActorView S M) → i < length actors → KeepsEnds (get_or actors i d) x → x.counts ≡ (get_or actors i d).counts → AreKept actors (slice_set actors i x)
  kept actors i x d low ends counts = record {
    each = length-set actors i x;
    counts = map-set_same (λ (a : ActorView S M). a.counts) actors i x d counts;
    ends = λ k a b here. elim (cases_eq k i) [
      | inl same ↦ subst (λ (n : ℕ). KeepsEnds (get_or actors n a) (get_or (slice_set actors i x) n b)) (sym same)
          (subst (λ (y : ActorView S M). KeepsEnds (get_or actors i a) y) (sym (get_or-set_same actors i x b low))
          (subst (λ (y : ActorView S M). KeepsEnds y x) (get_or_default actors i d a low) ends))
      | inr other ↦ subst (λ (y : ActorView S M). KeepsEnds (get_or actors k a) y) (get_or_default actors k a b here ∙ sym (get_or-set_other actors i k x b other)) (unchanged (get_or actors k a))
    ];
  }

  pub each_follows : (rules : Rules S M) (firsts : List S) (actors : List (ActorView S M)) (i : ℕ) (x d : ActorView S M) → i < length actors
      → ((first : S) → Follows rules first (get_or actors i d) → Follows rules first x) → EachFollows rules firsts actors → EachFollows rules firsts (slice_set actors i x)
  each_follows rules firsts actors i x d low goes all k s a here = elim (cases_eq k i) [
    | inl same ↦ subst (λ (n : ℕ). Follows rules (get_or firsts n s) (get_or (slice_set actors i x) n a)) (sym same)
        (subst (λ (y : ActorView S M). Follows rules (get_or firsts i s) y) (sym (get_or-set_same actors i x a low))
        (goes (get_or firsts i s) (all i s d (subst (λ (n : ℕ). n < length firsts) same here))))
    | inr other ↦ subst (λ (y : ActorView S M). Follows rules (get_or firsts k s) y) (sym (get_or-set_other actors i k x a other)) (all k s a here)
  ]

  -- one actor takes a turn
  pub turned : {A : Type 0} (view : A → ActorView S M) (rules : Rules S M) (firsts : List S) (xs : List A) (i : ℕ) (old x : A) → i < length xs → old ≡ get_or xs i old → KeepsEnds (view old) (view x) → (view x).counts ≡ (view old).counts
      → ((first : S) → Follows rules first (view old) → Follows rules first (view x)) → EachFollows rules firsts (map view xs) → AreKept (map view xs) (map view (slice_set xs i x)) × EachFollows rules firsts (map view (slice_set xs i x))
  turned view rules firsts xs i old x low is ends counts goes all =
      let was : view old ≡ get_or (map view xs) i (view old) = ap view is ∙ sym (get_or-map view xs i old (view old) low) in
      let here : i < length (map view xs) = subst (λ (n : ℕ). i < n) (sym (length-map xs view)) low in
      let keeps = subst (λ (y : ActorView S M). KeepsEnds y (view x)) was ends in
      let same = counts ∙ ap (λ (a : ActorView S M). a.counts) was in
      let moves = subst (λ (y : ActorView S M). (first : S) → Follows rules first y → Follows rules first (view x)) was goes in (
        subst (AreKept (map view xs)) (sym (map-set view xs i x)) (kept (map view xs) i (view x) (view old) here keeps same),
        subst (EachFollows rules firsts) (sym (map-set view xs i x)) (each_follows rules firsts (map view xs) i (view x) (view old) here moves all),
      )
