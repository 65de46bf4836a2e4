-- Actions that are known to be idle.
use Rattle.std.proofs.Common.{◌≡◌, ◌≢◌, ◌∙◌, ◌+◌, ◌<◌, ℕ, List, Option, Some, None, refl, replicate, length, get_or, set, slice_get, ap, sym, arith, inl, inr}
use Rattle.std.specs.Prelude.{is_some, false}
use Rattle.std.proofs.lemmas.Bool.{cases_eq}
use Rattle.std.proofs.lemmas.Option.{slice_get-get_or, slice_get_within, get_or_from_slice_get}
use Rattle.std.proofs.lemmas.List.{length-set, length-replicate, get_or-replicate, get_or-set_same, get_or-set_other}
use Rattle.sl_machine.specs.Machine.{Rules, After}
use Rattle.sl_world.specs.Resting.{AreResting}

module _ {S M : Type 0} (rules : Rules S M) where
  -- of a machine that took a turn nothing is known
  pub not_resting : (old new : List S) (resting : List ℕ) (a : ℕ) (t : S) → AreResting rules old resting → new ≡ set old a t → a < length old → AreResting rules new (set resting a 0)
  not_resting old new resting a t known is low =
      record {
        each = length-set resting a 0 ∙ (known.each ∙ sym (ap length is ∙ length-set old a t));
        idle = λ b c s state told.
            elim (cases_eq b a) [
              | inl same ↦ absurd (omega (arith, told, ap (λ (i : ℕ). get_or (set resting a 0) i 0) same, get_or-set_same resting a 0 0 (omega (arith, low, known.each))))
              | inr other ↦ known.idle b c s (was b s state other) (sym (get_or-set_other resting a b 0 0 other) ∙ told)
            ];
      }
    where
      was : (b : ℕ) (s : S) → slice_get new b ≡ Some s → b ≢ a → slice_get old b ≡ Some s
      was b s state other =
          slice_get-get_or old b s (omega (arith, slice_get_within new b s state, ap length is, length-set old a t))
          ∙ ap Some (sym (get_or-set_other old a b t s other) ∙ (ap (λ (ss : List S). get_or ss b s) (sym is) ∙ get_or_from_slice_get new b s s state))

  -- an action was idle
  pub now_resting : (old new : List S) (resting : List ℕ) (a choice : ℕ) (s : S) → AreResting rules old resting → new ≡ old → slice_get old a ≡ Some s → a < length old → rules.act s choice ≡ None → AreResting rules new (set resting a (choice + 1))
  now_resting old new resting a choice s known is state low none =
      record {
        each = length-set resting a (choice + 1) ∙ (known.each ∙ sym (ap length is));
        idle = λ b c t at told.
            elim (cases_eq b a) [
              | inl same ↦
                  let choice_is : c ≡ choice = omega (arith, told, ap (λ (i : ℕ). get_or (set resting a (choice + 1)) i 0) same, get_or-set_same resting a (choice + 1) 0 (omega (arith, low, known.each))) in
                  let same_state : t ≡ s = sym (get_or_from_slice_get old b t t (sym (ap (λ ss. slice_get ss b) is) ∙ at)) ∙ (ap (λ (i : ℕ). get_or old i t) same ∙ get_or_from_slice_get old a s t state) in
                  rw (same_state, choice_is) (ap is_some none)
              | inr other ↦ known.idle b c t (sym (ap (λ ss. slice_get ss b) is) ∙ at) (sym (get_or-set_other resting a b (choice + 1) 0 other) ∙ told)
            ];
      }

  -- what is known of a machine
  pub rests : (states : List S) (resting : List ℕ) (a c : ℕ) (s : S) → AreResting rules states resting → slice_get states a ≡ Some s → get_or resting a 0 ≡ c + 1 → rules.act s c ≡ None
  rests states resting a c s known state told = none (rules.act s c) (known.idle a c s state told)
    where
      none : (o : Option (After S M)) → is_some o ≡ false → o ≡ None
      none None e = refl
      none (Some x) e = absurd (cc)

  -- at first nothing is known
  pub none_resting : (states : List S) (resting : List ℕ) (n : ℕ) → resting ≡ replicate n 0 → n ≡ length states → AreResting rules states resting
  none_resting states resting n is many =
      record {
        each = ap length is ∙ (length-replicate n 0 ∙ many);
        idle = λ a c s state told.
            let zero : ℕ = 0 in
            absurd (omega (arith, told, ap (λ (r : List ℕ). get_or r a 0) is, get_or-replicate n a zero zero (omega (arith, many, slice_get_within states a s state))));
      }
